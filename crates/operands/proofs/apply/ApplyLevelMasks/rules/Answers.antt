use Rattle.operands.proofs.Applied.{applied}
use Rattle.operands.proofs.apply.ApplyLevelMasks.rules.Goals as goal

pub returns : goal.returns
returns g c =
    applied _ _ _
    g.met.Op.BitSetOp.masksfit g.met.Op.BitSetOp.wordsfit g.met.Op.BitSetOp.covering g.met.Op.BitSetOp.exact
    _ _ _ _ c.rules.ensures
    _ _ _ _ c.rules-2.ensures
