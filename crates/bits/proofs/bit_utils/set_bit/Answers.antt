use Rattle.bits.proofs.Marks.{mark_on}
use Rattle.bits.proofs.bit_utils.set_bit.Goals as goal

pub returns : goal.returns
returns c = λ a. mark_on c.args.word c.args.k a c.requires
