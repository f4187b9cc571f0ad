-- From the merged words of a tree to the roll's answer and the roll after it.
use Rattle.std.proofs.Common.{◌≡◌, ℕ, ◌-◌, ◌/◌, ◌%◌, ◌^◌, ◌<◌, Bool, true, false, ◌&&◌, ◌||◌, ap, arith}
use mathlib.Core.Path.{fun_ext}
use lib.Bits.{bit_and, bit_or, or_lt}
use Rattle.std.proofs.lemmas.Bool.Decides.{nat_tests}
use Rattle.bits.proofs.Laws.{bit_lt, bit_of_or, bit_of_and}
use Rattle.roll.specs.Members.{members}
use Rattle.roll.specs.Roll.{Answer, refuses}
use Rattle.roll.specs.Merges.{Unite, Intersect, joint, merge_answer, merge_after}
use Rattle.roll.proofs.Counts.{groups_words, blocks_words}
use Rattle.tree.specs.declared.Tree.{Tree}
use Rattle.tree.specs.Trees.{word, slots1, slots2, Sound}
use Rattle.merge.specs.Merged.{Merged, all, united, verdict}
use Rattle.bitset.specs.Sets.{tree_roll}
use Rattle.bitset.proofs.Calls.{rolled, same_roll, Tied, tied}

-- the members of merged words
union_members : (w x : ℕ → ℕ → ℕ) (m : ℕ) → (members w m || members x m) ≡ members (λ a b. bit_or (w a b) (x a b)) m
union_members w x m = grind (arith, nat_tests, bit_of_or, bit_lt)

meet_members : (w x : ℕ → ℕ → ℕ) (m : ℕ) → (members w m && members x m) ≡ members (λ a b. bit_and (w a b) (x a b)) m
meet_members w x m = grind (arith, nat_tests, bit_of_and, bit_lt)

-- the roll of a tree whose words are those of a merge
merged_roll : (f : ℕ → ℕ → ℕ) (x : ℕ → ℕ → ℕ) (X : ℕ → Bool) (s s' : Tree) → Merged f all x s s' → ((m : ℕ) → X m ≡ members (λ a b. f (word s a b) (x a b)) m) → tree_roll s' ≡ rolled X (slots1 s) (slots2 s)
merged_roll f x X s s' g e =
    same_roll _ X _ _ _ _ (λ m. cc (g.words (m / 4096) (m % 4096 / 64), e m)) (ap (λ n. n - 1) g.room1) (ap (λ n. n - 1) g.room2)

pub unites : (s s' : Tree) (x : ℕ → ℕ → ℕ) (o : Answer) → Sound s → ((i j : ℕ) → x i j < 2 ^ 64) → o ≡ verdict s x → (refuses o ≡ false → Merged bit_or all x s s') → (refuses o ≡ true → s' ≡ s) → Tied s s' (merge_answer (tree_roll s) (Unite (members x))) (merge_after (tree_roll s) (Unite (members x))) o
unites s s' x o t f er put kept =
    let M = joint (members (word s)) (Unite (members x)) in
    let fits : (i j : ℕ) → united (word s) x i j < 2 ^ 64 = λ i j. or_lt 64 (word s i j) (x i j) (t.0.fits2 i j) (f i j) in
    tied s s' o _ M (cc (fun_ext (union_members (word s) x), groups_words (united (word s) x) fits, blocks_words (united (word s) x) fits)) kept (λ y. merged_roll bit_or x M s s' (put y) (union_members (word s) x))

pub cuts : (s s' : Tree) (x : ℕ → ℕ → ℕ) → Merged bit_and all x s s' → tree_roll s' ≡ merge_after (tree_roll s) (Intersect (members x))
cuts s s' x g = merged_roll bit_and x _ s s' g (meet_members (word s) x)
