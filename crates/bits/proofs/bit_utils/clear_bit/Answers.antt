use Rattle.std.proofs.Common.{rules}
use Rattle.bits.proofs.Marks.{mark_off}
use Rattle.bits.proofs.bit_utils.clear_bit.Goals as goal

pub returns : goal.returns
returns c = λ a. mark_off c.args.word c.args.k a (search rules) c.requires
