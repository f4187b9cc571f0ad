-- The words and the members of a combination.
use Rattle.std.specs.Prelude.{ℕ, ◌*◌, ◌^◌, Bool, cond, ◌&&◌, ◌==◌, nat_lt}
use Rattle.bits.specs.Bit.{bit}
use Rattle.bits.specs.Indices.{capacity, offset}
use Rattle.roll.specs.Members.{one}

-- x at a place below 64, and zero past it
abbrev pub within : ℕ → ℕ → ℕ
within i x = cond (nat_lt i 64) x 0

-- whether index n is a member, from whether each side has it: the operation's answer on two words that differ
-- from zero at the index's bit at most, read at that bit
unfoldable pub joined : (ℕ → ℕ → ℕ) → ℕ → Bool → Bool → Bool
joined f n p q = nat_lt n capacity && bit (f (one p * 2 ^ offset n) (one q * 2 ^ offset n)) (offset n) == 1
