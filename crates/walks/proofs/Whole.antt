-- A whole walk gives exactly the members.
use Rattle.std.proofs.Common.{◌≡◌, ℕ, zero, suc, ◌+◌, ◌*◌, ◌/◌, ◌%◌, ◌<◌, ◌≤◌, Bool, eqb, List, [], ◌∷◌, ◌++◌, sym, refl, inl, inr, arith}
use Rattle.std.proofs.lemmas.Bool.{cases_Bool}
use Rattle.std.proofs.lemmas.Bool.Decides.{nat_tests}
use Rattle.std.proofs.lemmas.Grind.{common_steps}
use Rattle.bits.specs.Bit.{bit}
use Rattle.bits.specs.Places.{scan, places}
use Rattle.bits.proofs.Laws.{bit_lt}
use Rattle.bits.proofs.Listed.{places_zero}
use Rattle.operands.specs.Ruled.{Ruled}
use Rattle.roll.specs.Members.{members}
use Rattle.walks.specs.Pending.{row, rows, whole}
use Rattle.walks.specs.Indices.{placed, spread, sift, listed}
use Rattle.walks.proofs.Sifted.{sift_append}

pub spread_append : (word : ℕ → ℕ → ℕ) (xs ys : List (ℕ × ℕ)) → spread word (xs ++ ys) ≡ spread word xs ++ spread word ys
unfolding spread
spread_append word [] ys = refl
spread_append word (x ∷ xs) ys = grind (arith, common_steps, spread_append word xs ys)

-- one word
word_sift : (p : ℕ → Bool) (b w n k : ℕ) → ((l : ℕ) → k ≤ l → l < k + n → p (b + l) ≡ eqb (bit w l) 1) → sift p n (b + k) ≡ placed b (scan n k w)
unfolding sift scan placed
word_sift p b w zero k h = refl
word_sift p b w (suc n) k h =
    let t = word_sift p b w n (suc k) (λ l a c. h l (omega arith) (omega arith)) in
    rw (h k (omega arith) (omega arith)) (grind (arith, t))

module _ (word : ℕ → ℕ → ℕ) where
  pub member_at : (i j k : ℕ) → i < 64 → j < 64 → k < 64 → members word (4096 * i + 64 * j + k) ≡ eqb (bit (word i j) k) 1
  member_at i j k a b c =
      let n = 4096 * i + 64 * j + k in
      let x : n / 4096 ≡ i = omega arith in
      let y : n % 4096 / 64 ≡ j = omega arith in
      let z : n % 64 ≡ k = omega arith in
      grind (arith, nat_tests)

  block_sift : (i j n : ℕ) → i < 64 → j < 64 →
      sift (members word) (64 * suc n) (4096 * i + 64 * j) ≡ placed (4096 * i + 64 * j) (places (word i j)) ++ sift (members word) (64 * n) (4096 * i + 64 * suc j)
  unfolding places
  block_sift i j n a b =
      let t = word_sift (members word) (4096 * i + 64 * j) (word i j) 64 0 (λ l x y. member_at i j l a b (omega arith)) in
      let s = sift_append (members word) 64 (64 * n) (4096 * i + 64 * j) in
      grind (arith, t, s)

  -- one group, by a middle word that misses no word
  group_sift : (i w : ℕ) → i < 64 → ((j : ℕ) → bit w j ≡ 0 → word i j ≡ 0) →
      (n j : ℕ) → j + n ≤ 64 → sift (members word) (64 * n) (4096 * i + 64 * j) ≡ spread word (row i (scan n j w))
  unfolding sift scan row spread placed
  group_sift i w a c zero j h = refl
  group_sift i w a c (suc n) j h =
      rw (block_sift i j n a (omega arith), group_sift i w a c n (suc j) (omega arith)) (grind (arith, nat_tests, bit_lt, places_zero, c j))

  group_whole : (i w n : ℕ) → i < 64 → ((j : ℕ) → bit w j ≡ 0 → word i j ≡ 0) →
      sift (members word) (4096 * suc n) (4096 * i) ≡ spread word (row i (places w)) ++ sift (members word) (4096 * n) (4096 * suc i)
  unfolding places
  group_whole i w n a c =
      let t = group_sift i w a c 64 0 (omega arith) in
      let s = sift_append (members word) 4096 (4096 * n) (4096 * i) in
      grind (arith, t, s)

  rows_sift : (trusted : Bool) (t : ℕ) (m : ℕ → ℕ) → Ruled trusted t m word →
      (n i : ℕ) → i + n ≤ 64 → sift (members word) (4096 * n) (4096 * i) ≡ spread word (rows m (scan n i t))
  unfolding sift scan row rows spread
  rows_sift trusted t m r zero i h = refl
  rows_sift trusted t m r (suc n) i h =
      let l = rows_sift trusted t m r n (suc i) (omega arith) in
      elim (cases_Bool (eqb (bit t i) 1)) [
        | inl o ↦ rw (group_whole i (m i) n (omega arith) (λ j z. grind (arith, r.covers_middle i j)), l, o, spread_append)
        | inr o ↦ rw (group_whole i 0 n (omega arith) (λ j z. grind (arith, nat_tests, bit_lt, r.covers_top i j)), places_zero, l, o)
      ]

-- the numbers of the pairs of a whole walk are the members
pub whole_listed : (trusted : Bool) (t : ℕ) (m : ℕ → ℕ) (word : ℕ → ℕ → ℕ) → Ruled trusted t m word → spread word (whole m t) ≡ listed (members word)
unfolding listed whole places
whole_listed trusted t m word r = sym (rows_sift word trusted t m r 64 0 (omega arith))
