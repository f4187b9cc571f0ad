-- From what a change leaves of the tree to the roll's answer and the roll after it.
use Rattle.std.proofs.Common.{◌≡◌, ℕ, ◌-◌, ◌/◌, ◌%◌, ◌^◌, ◌<◌, Bool, true, false, cond, sym, refl, ap, ◌∙◌, arith}
use mathlib.Core.Path.{fun_ext}
use lib.Bits.{bit_or, or_lt}
use Rattle.std.proofs.lemmas.Bool.Decides.{nat_tests}
use Rattle.bits.proofs.Laws.{bit_of_zero}
use Rattle.roll.specs.Members.{members}
use Rattle.roll.specs.Roll.{Roll, Call, Answer, Done, answer, after, refuses, made, fitting, InsertBlock}
use Rattle.tree.specs.declared.Tree.{Tree}
use Rattle.tree.specs.Trees.{word, slots1, slots2, Sound}
use Rattle.tree.specs.Steps.{Put, room}
use Rattle.tree.proofs.Whole.{or_some}
use Rattle.bitset.specs.Sets.{tree_roll}
use Rattle.bitset.proofs.Over.{over, over_groups, over_blocks}

abbrev pub rolled : (ℕ → Bool) → ℕ → ℕ → Roll
rolled h p q = record { has = h; P = p; Q = q }

pub same_roll : (h h' : ℕ → Bool) (p p' q q' : ℕ) → ((m : ℕ) → h m ≡ h' m) → p ≡ p' → q ≡ q' → rolled h p q ≡ rolled h' p' q'
same_roll h h' p p' q q' e x y = cc (fun_ext e)

-- the words after a change are the old ones with one replaced
pub put_words : (s s' : Tree) (i j v : ℕ) → Put s s' i j v → (m : ℕ) → members (word s') m ≡ members (over (word s) i j v) m
put_words s s' i j v p m = grind (arith, nat_tests, p.here, p.others (m / 4096) (m % 4096 / 64))

pub put_roll : (s s' : Tree) (i j v : ℕ) (X : ℕ → Bool) → Put s s' i j v → ((m : ℕ) → X m ≡ members (over (word s) i j v) m) → tree_roll s' ≡ rolled X (slots1 s) (slots2 s)
put_roll s s' i j v X p e =
    same_roll _ X _ _ _ _ (λ m. put_words s s' i j v p m ∙ sym (e m)) (ap (λ n. n - 1) p.room1) (ap (λ n. n - 1) p.room2)

-- a change of the tree, by its outcome o: o is the roll's answer a, and the tree has the roll r after it
pub record Tied (s s' : Tree) (a : Answer) (r : Roll) (o : Answer) : Type 0 where
  pub says : o ≡ a
  pub leaves : tree_roll s' ≡ r

-- a refusal changes nothing
pub tied : (s s' : Tree) (o a : Answer) (M : ℕ → Bool) → o ≡ a → (refuses o ≡ true → s' ≡ s) → (refuses o ≡ false → tree_roll s' ≡ rolled M (slots1 s) (slots2 s)) → Tied s s' a (cond (refuses a) (tree_roll s) (rolled M (slots1 s) (slots2 s))) o
tied s s' o a M e kept put = record { says = e; leaves = grind (arith, nat_tests) }

-- a call that adds the bits w of block (i, j)
pub gained : (s s' : Tree) (call : Call) (o : Answer) (i j w : ℕ) → Sound s → i < 64 → j < 64 → w < 2 ^ 64 → 0 < w → o ≡ room s i j → (refuses o ≡ false → Put s s' i j (bit_or (word s i j) w)) → (refuses o ≡ true → s' ≡ s) → ((m : ℕ) → made (members (word s)) call m ≡ members (over (word s) i j (bit_or (word s i j) w)) m) → answer (tree_roll s) call ≡ fitting (slots1 s) (slots2 s) (made (members (word s)) call) → Tied s s' (answer (tree_roll s) call) (after (tree_roll s) call) o
gained s s' call o i j w t li lj fw p er put kept em ea =
    let v = bit_or (word s i j) w in
    let M = made (members (word s)) call in
    let fv : v < 2 ^ 64 = or_lt 64 (word s i j) w (t.0.fits2 i j) fw in
    let q : 0 < v = or_some (word s i j) w p in
    tied s s' o _ M (cc (fun_ext em, over_groups (word s) i j v li lj t.0.fits2 fv q, over_blocks (word s) i j v li lj t.0.fits2 fv q)) kept (λ x. put_roll s s' i j v M (put x) em)

-- a block insert of the zero word is accepted and changes nothing
pub zero_word : (s : Tree) (n w : ℕ) → w ≡ 0 → Tied s s (answer (tree_roll s) (InsertBlock n w)) (after (tree_roll s) (InsertBlock n w)) Done
zero_word s n w z = tied s s Done _ (made (members (word s)) (InsertBlock n w)) (grind (arith, nat_tests)) (λ _. refl) (λ _. same_roll _ _ _ _ _ _ (λ m. grind (arith, nat_tests, bit_of_zero (m - n))) refl refl)
