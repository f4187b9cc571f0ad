use Rattle.std.proofs.Common.{arith}
use Rattle.view.proofs.Rules.{set_ruled}
use Rattle.bitset.proofs.Kept.{sound_of}
use Rattle.view.proofs.ViewLevelMasks.rules.Goals as goal

pub returns : goal.returns
returns c =
    let set = c.args.self.now.set.now in
    set_ruled set.tree (sound_of set) (omega (arith, c.level0_mask.type_inv, rw c.tree.ensures.same at c.level0_mask.ensures))
