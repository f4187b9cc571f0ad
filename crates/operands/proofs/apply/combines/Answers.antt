use Rattle.operands.proofs.Members.{members_joined}
use Rattle.operands.proofs.apply.combines.Goals as goal

pub returns : goal.returns
returns g c = members_joined _ g.met.Op.BitSetOp.bitwise _ _ c.rules.ensures.word_fits c.rules-2.ensures.word_fits
