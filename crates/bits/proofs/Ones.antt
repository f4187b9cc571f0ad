-- How many one bits a word has.
use Rattle.std.proofs.Common.{◌≡◌, ℕ, zero, suc, ◌/◌, ◌^◌, ◌<◌, ap, arith}
use Rattle.std.proofs.lemmas.Nat.{zero_from_ones, ones_le_self}
use lib.Count.{ones, ones_step}
use Rattle.bits.specs.Bit.{bit}
use Rattle.bits.specs.Sums.{total, some}
use Rattle.bits.proofs.Laws.{bit_zero, bit_suc}
use Rattle.bits.proofs.Totals.{total_same, total_front}

-- they are the sum of its bits
pub ones_total : (n w : ℕ) → w < 2 ^ n → ones w ≡ total (bit w) n
unfolding total ones
ones_total zero w l = let z : w ≡ 0 = omega arith in ap ones z
ones_total (suc n) w l =
    omega (arith, ones_step w, ones_total n (w / 2) (omega arith), total_same (λ k. bit w (suc k)) (bit (w / 2)) n (λ k _. bit_suc w k), total_front (bit w) n, bit_zero w)

-- and none only at the zero word
pub ones_some : (n w : ℕ) → w < 2 ^ n → some (ones w) ≡ some w
ones_some n w l = grind (arith, zero_from_ones w, ones_le_self w)
