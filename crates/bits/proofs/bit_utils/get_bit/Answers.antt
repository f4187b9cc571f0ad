use Rattle.std.proofs.Common.{refl}
use Rattle.bits.specs.Bit.{bit}
use Rattle.bits.proofs.bit_utils.get_bit.Goals as goal

pub returns : goal.returns
unfolding bit
returns c = refl
