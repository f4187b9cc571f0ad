-- What becomes of each slot, from what the calls keep.
use Rattle.std.proofs.Common.{◌≡◌, ℕ, zero, suc, ◌<◌, ◌≤◌, min, sym, refl, ◌∙◌, arith}
use Rattle.std.proofs.lemmas.Bool.Decides.{nat_tests}
use Rattle.bits.specs.Sums.{total, some, same}
use Rattle.bits.proofs.Laws.{bit_lt, bit_of_zero}
use Rattle.bits.proofs.Totals.{total_same, totals_same, total_most}
use Rattle.roll.proofs.Counts.{member_at, groups_words, blocks_words}
use Rattle.pool.specs.Kinds.{Kind}
use Rattle.pool.specs.Pool.{tally}
use Rattle.pool.specs.Levels.{Holds}
use Rattle.pool.specs.declared.level.Level.{Level}
use Rattle.tree.specs.Trees.{slot1, slot2, word, count1, count2, held_by, Shape, Sound}
use Rattle.tree.specs.Slots.{entry1, entry2, holders1, holders2, OnceEach, Stands}
use Rattle.tree.specs.declared.Tree.{Tree}
use Rattle.tree.proofs.Facts.{slot0, word0, tally1, tally2}
use Rattle.tree.proofs.Whole.{used_groups, used_blocks}

-- holders and names are the same above slot 0, and slot 0 has no holder
module _ (s : Tree) (h : Shape s) where
  holders_count1 : (k : ℕ) → 0 < k → holders1 s k ≡ count1 s k
  holders_count1 k p = total_same _ _ 64 (λ i l. omega (arith, h.top i l))

  entry_slot2 : (i j : ℕ) → i < 64 → j < 64 → entry2 s i j ≡ some (slot2 s i j)
  entry_slot2 i j li lj = grind (arith, h.top i li, h.middle i j lj, slot0 s h i j)

  holders_count2 : (k : ℕ) → 0 < k → holders2 s k ≡ count2 s k
  holders_count2 k p = totals_same _ _ 64 64 (λ i j li lj. omega (arith, entry_slot2 i j li lj))

  none1 : holders1 s 0 ≡ 0
  none1 = omega (arith, total_most (λ i. min (entry1 s i) (same 0 (slot1 s i))) 64 0 (λ i l. omega (arith, h.top i l)))

  none2 : holders2 s 0 ≡ 0
  none2 = omega (arith, total_most (λ i. total (λ j. min (entry2 s i j) (same 0 (slot2 s i j))) 64) 64 0 (λ i li. omega (arith, total_most (λ j. min (entry2 s i j) (same 0 (slot2 s i j))) 64 0 (λ j lj. omega (arith, entry_slot2 i j li lj)))))

once_each : {B : Type 0} (kind : Kind B) (l : Level B) (c c' : ℕ → ℕ) → ((k : ℕ) → 0 < k → c k ≤ 1) → ((k : ℕ) → 0 < k → c' k ≡ c k) → Holds kind l (held_by c) → OnceEach kind l c'
once_each kind l c c' o e h = (h.0, (h.1.links, λ k p. grind (arith, nat_tests, o k, e k, h.1.once k, h.1.never k)))

-- the held slots, counted one by one
tally_total : (c c' : ℕ → ℕ) → ((k : ℕ) → 0 < k → c k ≤ 1) → ((k : ℕ) → 0 < k → c' k ≡ c k) → c' 0 ≡ 0 → (n : ℕ) → total c' n ≡ tally (held_by c) n
unfolding total
tally_total c c' o e z zero = refl
tally_total c c' o e z (suc n) = grind (arith, nat_tests, o n, e n, tally_total c c' o e z n)

pub stands : (s : Tree) → Sound s → Stands s
stands s t =
    let h = t.0 in
    record {
      upper_slots = once_each _ s.level1 (count1 s) (holders1 s) h.once1 (holders_count1 s h) h.holds1;
      lower_slots = once_each _ s.«data» (count2 s) (holders2 s) h.once2 (holders_count2 s h) h.holds2;
      upper_held = tally_total (count1 s) (holders1 s) h.once1 (holders_count1 s h) (none1 s h) _ ∙ tally1 s h ∙ used_groups s t.1 ∙ sym (groups_words (word s) h.fits2);
      lower_held = tally_total (count2 s) (holders2 s) h.once2 (holders_count2 s h) (none2 s h) _ ∙ tally2 s h ∙ used_blocks s t.1 ∙ sym (blocks_words (word s) h.fits2);
      placed = λ i j k li lj lk. grind (arith, nat_tests, member_at (word s) i j k li lj lk, entry_slot2 s h i j li lj, bit_lt (word s i j) k, word0 s h i j, bit_of_zero k);
      no_entry1 = λ i l e. omega (arith, h.top i l);
      no_entry2 = λ i j l e. omega (arith, h.middle i j l);
    }
