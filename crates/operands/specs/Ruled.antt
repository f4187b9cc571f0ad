-- What the words of an operand keep to.
use Rattle.std.specs.Prelude.{◌≡◌, ℕ, ◌<◌, ◌≤◌, Bool, true}
use Rattle.bits.specs.Bit.{bit}
use Rattle.ops.specs.Laws.{Word}

pub record Ruled (trusted : Bool) (top : ℕ) (middle : ℕ → ℕ) (word : ℕ → ℕ → ℕ) : Type 0 where
  -- words have 64 bits
  pub top_fits : Word top
  pub middle_fits : (i : ℕ) → Word (middle i)
  pub word_fits : (i j : ℕ) → Word (word i j)
  -- an i or j of 64 or more reads as zero
  pub middle_past : (i : ℕ) → 64 ≤ i → middle i ≡ 0
  pub word_past_i : (i j : ℕ) → 64 ≤ i → word i j ≡ 0
  pub word_past_j : (i j : ℕ) → 64 ≤ j → word i j ≡ 0
  -- cover rule: where a data word is not 0, both masks announce it
  pub covers_top : (i j : ℕ) → 0 < word i j → bit top i ≡ 1
  pub covers_middle : (i j : ℕ) → 0 < word i j → bit (middle i) j ≡ 1
  -- trust rule: what is announced is there
  pub trusts_top : trusted ≡ true → (i : ℕ) → bit top i ≡ 1 → 0 < middle i
  pub trusts_middle : trusted ≡ true → (i j : ℕ) → bit (middle i) j ≡ 1 → 0 < word i j
