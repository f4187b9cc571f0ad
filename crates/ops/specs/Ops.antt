-- The laws of the four operations.
use Rattle.std.specs.Prelude.{Bool, ◌-◌, ◌^◌, ◌<◌}
use Rattle.std.proofs.Common.{arith}
use Rattle.std.specs.Int.Bits.{bit_and, bit_or, bit_xor, or_add_and, xor_add_and}
use Rattle.std.proofs.lemmas.Nat.{or_lt, xor_lt, and_le_l, and_le_r}
use Rattle.bits.proofs.Laws.{bit_of_and, bit_of_or, bit_of_xor, bit_and_not, bit_lt}
use Rattle.ops.specs.Laws.{Closed, Bitwise, Covering, Exact}

pub or_closed : Closed bit_or
or_closed a b = or_lt 64 a b

pub xor_closed : Closed bit_xor
xor_closed a b = xor_lt 64 a b

pub or_bitwise : Bitwise bit_or
or_bitwise a b c d k wa wb wc wd l e f = omega (arith, bit_of_or a b k, bit_of_or c d k)

pub and_bitwise : Bitwise bit_and
and_bitwise a b c d k wa wb wc wd l e f = omega (arith, bit_of_and a b k, bit_of_and c d k)

pub xor_bitwise : Bitwise bit_xor
xor_bitwise a b c d k wa wb wc wd l e f = omega (arith, bit_of_xor a b k, bit_of_xor c d k)

pub sub_bitwise : Bitwise (λ a b. bit_and a (2 ^ 64 - 1 - b))
sub_bitwise a b c d k wa wb wc wd l e f = omega (arith, bit_and_not 64 a b k wb l, bit_and_not 64 c d k wd l)

pub or_covering : Covering bit_or bit_or
or_covering a b p q j wa wb wp wq l h k n = grind (arith, or_add_and a b, bit_of_or p q j, bit_lt p j, bit_lt q j)

pub and_covering : Covering bit_and bit_and
and_covering a b p q j wa wb wp wq l h k n = grind (arith, and_le_l a b, and_le_r a b, bit_of_and p q j)

pub xor_covering : Covering bit_or bit_xor
xor_covering a b p q j wa wb wp wq l h k n = grind (arith, xor_add_and a b, bit_of_or p q j, bit_lt p j, bit_lt q j)

pub or_exact : (t : Bool) → Exact t bit_or bit_or
or_exact t y a b p q j wa wb wp wq l h k e =
    let s : 0 < bit_or a b = grind (arith, or_add_and a b, and_le_l a b, and_le_r a b, bit_of_or p q j, bit_lt p j, bit_lt q j) in (s, s)
