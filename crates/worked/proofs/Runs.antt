-- Operations that leave no member.
use Rattle.std.proofs.Common.{◌≡◌, ℕ, ◌*◌, ◌^◌, Bool, false, arith}
use Rattle.bits.specs.Indices.{offset}
use Rattle.bits.proofs.Laws.{bit_of_zero}
use Rattle.roll.specs.Members.{one}
use Rattle.operands.specs.Combined.{joined}

-- an operation whose answer on those words is 0 has no member there
pub nowhere : (f : ℕ → ℕ → ℕ) (n : ℕ) (p q : Bool) → f (one p * 2 ^ offset n) (one q * 2 ^ offset n) ≡ 0 → joined f n p q ≡ false
unfolding joined
nowhere f n p q e = rw (e, bit_of_zero) (grind arith)
