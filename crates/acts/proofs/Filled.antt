-- The blocks that the masks of a trusted operand announce are those in which it has a member.
use Rattle.std.proofs.Common.{◌≡◌, ℕ, zero, suc, ◌+◌, ◌*◌, ◌^◌, ◌<◌, ◌≤◌, Bool, true, eqb, ◌++◌, sym, refl, ◌∙◌, inl, inr, arith}
use Rattle.std.proofs.lemmas.List.{map-append}
use Rattle.std.proofs.lemmas.Bool.{cases_Bool}
use Rattle.std.proofs.lemmas.Bool.Decides.{nat_tests}
use Rattle.bits.specs.Bit.{bit}
use Rattle.bits.specs.Places.{scan, places}
use Rattle.bits.specs.Sums.{some}
use Rattle.bits.proofs.Laws.{bit_lt, bit_of_zero}
use Rattle.bits.proofs.Listed.{places_zero}
use Rattle.bits.proofs.Totals.{total_same}
use Rattle.bits.proofs.Weights.{weights}
use Rattle.operands.specs.Ruled.{Ruled}
use Rattle.roll.specs.Members.{members, one, any}
use Rattle.roll.proofs.Counts.{block_one}
use Rattle.walks.specs.Pending.{row, rows, whole}
use Rattle.walks.proofs.Whole.{member_at}
use Rattle.acts.specs.Blocks.{block_of, block_list, announced, word_of, block_at, fill, filled}

-- ---- the list of a set's blocks

fill_append : (M : ℕ → Bool) (m n b : ℕ) → fill M (m + n) b ≡ fill M m b ++ fill M n (b + m)
unfolding fill
fill_append M zero n b = grind arith
fill_append M (suc m) n b =
    let e : suc m + n ≡ suc (m + n) = omega arith in
    let t = fill_append M m n (suc b) in
    rw e (grind (arith, t))

-- ---- one block of the members of words

module _ (word : ℕ → ℕ → ℕ) (fits : (i j : ℕ) → word i j < 2 ^ 64) where
  bit_one : (i j k : ℕ) → i < 64 → j < 64 → k < 64 → one (members word (4096 * i + 64 * j + k)) ≡ bit (word i j) k
  bit_one i j k li lj lk = rw (member_at word i j k li lj lk) (grind (arith, nat_tests, bit_lt (word i j) k))

  word_is : (i j : ℕ) → i < 64 → j < 64 → word_of (members word) (4096 * i + 64 * j) ≡ word i j
  unfolding word_of
  word_is i j li lj =
      total_same (λ k. one (members word (4096 * i + 64 * j + k)) * 2 ^ k) (λ k. bit (word i j) k * 2 ^ k) 64 (λ k lk. rw (bit_one i j k li lj lk))
      ∙ weights (word i j) 64 (fits i j)

  start_is : (i j : ℕ) → 64 * (64 * i + j) ≡ 4096 * i + 64 * j
  start_is i j = omega arith

  block_is : (i j : ℕ) → i < 64 → j < 64 → block_at (members word) (64 * (64 * i + j)) ≡ block_of word (i, j)
  block_is i j li lj = rw (start_is i j, word_is i j li lj)

  any_is : (i j : ℕ) → i < 64 → j < 64 → one (any (members word) (64 * (64 * i + j)) 64) ≡ some (word i j)
  any_is i j li lj = rw (start_is i j) (block_one word fits i j li lj)

  -- ---- the places of one group, then the groups

  row_fill : (i w : ℕ) → i < 64 → ((j : ℕ) → bit w j ≡ 1 → 0 < word i j) → ((j : ℕ) → bit w j ≡ 0 → word i j ≡ 0) →
      (n j : ℕ) → j + n ≤ 64 → fill (members word) n (64 * i + j) ≡ block_list word (row i (scan n j w))
  unfolding fill scan row block_list
  row_fill i w li trust cover zero j h = refl
  row_fill i w li trust cover (suc n) j h =
      let t = row_fill i w li trust cover n (suc j) (omega arith) in
      let here = block_is i j li (omega arith) in
      let there = any_is i j li (omega arith) in
      grind (arith, nat_tests, bit_lt, trust j, cover j, t, here, there)

  row_whole : (i w n : ℕ) → i < 64 → ((j : ℕ) → bit w j ≡ 1 → 0 < word i j) → ((j : ℕ) → bit w j ≡ 0 → word i j ≡ 0) →
      fill (members word) (64 * suc n) (64 * i) ≡ block_list word (row i (places w)) ++ fill (members word) (64 * n) (64 * suc i)
  unfolding places
  row_whole i w n li trust cover =
      let t = row_fill i w li trust cover 64 0 (omega arith) in
      let s = fill_append (members word) 64 (64 * n) (64 * i) in
      grind (arith, t, s)

  rows_fill : (t : ℕ) (m : ℕ → ℕ) → Ruled true t m word → (n i : ℕ) → i + n ≤ 64 → fill (members word) (64 * n) (64 * i) ≡ block_list word (rows m (scan n i t))
  unfolding fill scan row rows block_list
  rows_fill t m r zero i h = refl
  rows_fill t m r (suc n) i h =
      let l = rows_fill t m r n (suc i) (omega arith) in
      elim (cases_Bool (eqb (bit t i) 1)) [
        | inl o ↦ rw (row_whole i (m i) n (omega arith) (r.trusts_middle refl i) (λ j z. grind (arith, r.covers_middle i j)), l, o, map-append)
        | inr o ↦ rw (row_whole i 0 n (omega arith) (λ j z. grind (arith, bit_of_zero j)) (λ j z. grind (arith, nat_tests, bit_lt, r.covers_top i j)), places_zero, l, o)
      ]

-- the blocks of a whole walk over a trusted operand are the members' blocks
pub whole_filled : (trusted : Bool) → trusted ≡ true → (t : ℕ) (m : ℕ → ℕ) (word : ℕ → ℕ → ℕ) → Ruled trusted t m word →
    announced t m word ≡ filled (members word)
unfolding whole filled places
whole_filled trusted e t m word r = sym (rows_fill word r.word_fits t m (rw e at r) 64 0 (omega arith))
