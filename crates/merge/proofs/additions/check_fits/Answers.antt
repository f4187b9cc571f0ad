use Rattle.std.proofs.Common.{arith}
use Rattle.tree.specs.Trees.{word}
use Rattle.merge.specs.Merged.{united}
use Rattle.merge.proofs.Union.{groups_most, blocks_most}
use Rattle.merge.proofs.additions.check_fits.Goals as goal

pub overflow_add-held : goal.overflow_add-held
overflow_add-held g c =
    omega (arith, c.additions-groups.ensures.groups, c.used-held.ensures.groups, groups_most (united (word c.args.tree.now) (g.X.LevelMasks.word c.args.x.now)))

pub overflow_add-held-2 : goal.overflow_add-held-2
overflow_add-held-2 g c =
    omega (arith, c.additions-groups.ensures.blocks, c.used-held.ensures.blocks, blocks_most (united (word c.args.tree.now) (g.X.LevelMasks.word c.args.x.now)))
