-- A word without its bits below n: by a mask, and as a number.
use Rattle.std.proofs.Common.{◌≡◌, ℕ, ◌+◌, ◌-◌, ◌*◌, ◌/◌, ◌%◌, ◌^◌, ◌<◌, ◌≤◌, arith, shr-shr}
use lib.Pow.{pow_mono}
use Rattle.std.proofs.lemmas.Nat.Bits.{ones_shl, and_high_mask}
use lib.Bits.{bit_and}
use Rattle.bits.specs.Bit.{bit, cut}
use Rattle.bits.proofs.Laws.{bit_shl_low, bit_shl_high}

pub cut_low : (n w k : ℕ) → k < n → bit (cut n w) k ≡ 0
cut_low n w k h = bit_shl_low n (w / 2 ^ n) k h

pub cut_high : (n w k : ℕ) → n ≤ k → bit (cut n w) k ≡ bit w k
unfolding bit
cut_high n w k h =
    let e : n + (k - n) ≡ k = omega arith in
    rw (e, shr-shr, e) at (bit_shl_high n (w / 2 ^ n) (k - n))

pub masked : (w n : ℕ) → w < 2 ^ 64 → n < 64 → bit_and w ((2 ^ 64 - 1) * 2 ^ n % 2 ^ 64) ≡ cut n w
masked w n q h = rw (ones_shl 64 n (omega arith)) (and_high_mask 64 n (omega arith) w q)

pub emptied : (w n : ℕ) → w < 2 ^ 64 → 64 ≤ n → cut n w ≡ 0
emptied w n q h = grind (arith, pow_mono h)
