-- The nonempty groups and blocks of the members of 64 * 64 words are those with a word above 0.
use Rattle.std.proofs.Common.{◌≡◌, ℕ, ◌+◌, ◌*◌, ◌/◌, ◌%◌, ◌^◌, ◌<◌, ◌≤◌, true, false, eqb, ◌∙◌, inl, inr, arith}
use lib.Count.{count_trailing_zeros}
use Rattle.std.proofs.lemmas.Bool.{cases_lt, lt-ltb, eq-eqb}
use Rattle.bits.specs.Bit.{bit}
use Rattle.bits.specs.Sums.{total, some}
use Rattle.bits.proofs.Laws.{bit_of_zero}
use Rattle.bits.proofs.Low.{low_one, low_lt}
use Rattle.bits.proofs.Totals.{total_same, totals_same, total_at, total_some}
use Rattle.roll.specs.Members.{any, one, groups, blocks, members}
use Rattle.roll.proofs.Any.{any_from, any_none}

-- a member of a word is a one bit of it
pub member_at : (word : ℕ → ℕ → ℕ) (i j k : ℕ) → i < 64 → j < 64 → k < 64 → members word (4096 * i + 64 * j + k) ≡ eqb (bit (word i j) k) 1
member_at word i j k li lj lk =
    let n = 4096 * i + 64 * j + k in
    let a : n / 4096 ≡ i = omega arith in
    let b : n % 4096 / 64 ≡ j = omega arith in
    let c : n % 64 ≡ k = omega arith in
    rw (lt-ltb n 262144 (omega arith), a, b, c)

pub bit_member : (word : ℕ → ℕ → ℕ) (i j k : ℕ) → i < 64 → j < 64 → k < 64 → bit (word i j) k ≡ 1 → members word (4096 * i + 64 * j + k) ≡ true
bit_member word i j k li lj lk e = member_at word i j k li lj lk ∙ eq-eqb (bit (word i j) k) 1 e

module _ (word : ℕ → ℕ → ℕ) (fits : (i j : ℕ) → word i j < 2 ^ 64) where
  block_any : (i j : ℕ) → i < 64 → j < 64 → 0 < word i j → (k : ℕ) × ((k < 64) × (members word (4096 * i + 64 * j + k) ≡ true))
  block_any i j li lj p =
      let lk = low_lt 64 (word i j) p (fits i j) in
      (count_trailing_zeros 64 (word i j), (lk, bit_member word i j _ li lj lk (low_one 64 (word i j) p (fits i j))))

  pub block_one : (i j : ℕ) → i < 64 → j < 64 → one (any (members word) (4096 * i + 64 * j) 64) ≡ some (word i j)
  block_one i j li lj =
      elim (cases_lt 0 (word i j)) [
        | inl p ↦ let r = block_any i j li lj p in rw (any_from (members word) (4096 * i + 64 * j) 64 r.0 r.1.0 r.1.1) (omega arith)
        | inr z ↦
            let e : word i j ≡ 0 = omega arith in
            rw (any_none (members word) (4096 * i + 64 * j) 64 (λ k lk. rw (member_at word i j k li lj lk, e, bit_of_zero k)), e)
      ]

  pub group_one : (i : ℕ) → i < 64 → one (any (members word) (4096 * i) 4096) ≡ some (total (λ j. some (word i j)) 64)
  group_one i li =
      elim (cases_lt 0 (total (λ j. some (word i j)) 64)) [
        | inl p ↦
            let t = total_some (λ j. some (word i j)) 64 p in
            let r = block_any i t.0 li t.1 (omega (arith, t.2)) in
            let e : 4096 * i + 64 * t.0 + r.0 ≡ 4096 * i + (64 * t.0 + r.0) = omega arith in
            rw (any_from (members word) (4096 * i) 4096 (64 * t.0 + r.0) (omega (arith, t.1, r.1.0)) (rw e at r.1.1)) (omega arith)
        | inr z ↦ rw (any_none (members word) (4096 * i) 4096 (none i li z)) (omega arith)
      ]
    where
      none : (i : ℕ) → i < 64 → total (λ j. some (word i j)) 64 ≤ 0 → (k : ℕ) → k < 4096 → members word (4096 * i + k) ≡ false
      none i li z k lk =
          let e : 4096 * i + k ≡ 4096 * i + 64 * (k / 64) + k % 64 = omega arith in
          let w : word i (k / 64) ≡ 0 = omega (arith, total_at (λ j. some (word i j)) 64 (k / 64) (omega arith)) in
          rw (e, member_at word i (k / 64) (k % 64) li (omega arith) (omega arith), w, bit_of_zero (k % 64))

  -- the counts by words
  pub groups_words : groups (members word) ≡ total (λ i. some (total (λ j. some (word i j)) 64)) 64
  unfolding groups
  groups_words = total_same _ _ 64 group_one

  pub blocks_words : blocks (members word) ≡ total (λ i. total (λ j. some (word i j)) 64) 64
  unfolding blocks
  blocks_words = totals_same _ _ 64 64 block_one
