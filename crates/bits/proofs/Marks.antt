-- The word with one bit alone, and a word with that bit set or cleared.
use Rattle.std.proofs.Common.{◌≡◌, ℕ, ◌-◌, ◌*◌, ◌%◌, ◌^◌, ◌<◌, max, arith}
use Rattle.std.specs.Int.{w64}
use Rattle.std.proofs.lemmas.Nat.Bits.{bit_at_set_same, bit_at_set_other, bit_at_clear_same, bit_at_clear_other}
use lib.Bits.{bit_and, bit_or, or_zero_l}
use Rattle.bits.specs.Bit.{bit}
use Rattle.bits.proofs.Laws.{bit_lt, bit_of_and, bit_of_zero, bit_past}
use Rattle.bits.specs.Sums.{same}

-- bit k set, and bit k cleared
pub mark_on : (w k a : ℕ) → k < 64 → bit (bit_or w (1 * 2 ^ k % 2 ^ 64)) a ≡ max (bit w a) (same a k)
unfolding bit
mark_on w k a lk = grind (arith, bit_at_set_same w64 w k lk, bit_at_set_other w64 w k lk a, bit_lt w a)

pub mark_off : (w k a : ℕ) → w < 2 ^ 64 → k < 64 → bit (bit_and w (2 ^ 64 - 1 - (1 * 2 ^ k % 2 ^ 64))) a ≡ bit w a - same a k
unfolding bit
mark_off w k a fw lk = grind (arith, bit_at_clear_same w64 w k lk, bit_at_clear_other w64 w k lk a, bit_lt w a, bit_past 64 w a fw, bit_of_and w (2 ^ 64 - 1 - (1 * 2 ^ k % 2 ^ 64)) a)

-- the bits of the word with bit k alone
pub mark : (k a : ℕ) → k < 64 → bit (1 * 2 ^ k % 2 ^ 64) a ≡ same a k
mark k a lk = omega (arith, rw (or_zero_l (1 * 2 ^ k % 2 ^ 64)) at (mark_on 0 k a lk), bit_of_zero a)
