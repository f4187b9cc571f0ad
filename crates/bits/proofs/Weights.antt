-- A word is the sum of the weights of its one bits.
use Rattle.std.proofs.Common.{◌≡◌, ℕ, zero, suc, ◌*◌, ◌%◌, ◌^◌, ◌<◌, sym, ◌∙◌, mod-eq_of_lt, one-add, arith}
use native.Mathlib.Nat.{mod-one}
use lib.Pow.{mod-pow-add}
use Rattle.bits.specs.Bit.{bit}
use Rattle.bits.specs.Sums.{total}

weights_mod : (w n : ℕ) → total (λ k. bit w k * 2 ^ k) n ≡ w % 2 ^ n
unfolding total bit
weights_mod w zero = sym (mod-one w)
weights_mod w (suc n) = grind (arith, weights_mod w n, mod-pow-add w 1 n, one-add n)

pub weights : (w n : ℕ) → w < 2 ^ n → total (λ k. bit w k * 2 ^ k) n ≡ w
weights w n h = weights_mod w n ∙ mod-eq_of_lt h
