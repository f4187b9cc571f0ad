use Rattle.std.proofs.Common.{arith}
use Rattle.tree.specs.Trees.{held_by, count1, count2}
use Rattle.tree.proofs.Facts.{tally1, tally2}
use Rattle.tree.proofs.Whole.{used_groups, used_blocks}
use Rattle.tree.proofs.Tree.used.Goals as goal

pub returns-clause-groups : goal.returns-clause-groups
returns-clause-groups c = omega (arith, c.held_blocks.ensures (held_by (count1 c.args.self.now)) c.requires.0.holds1, tally1 c.args.self.now c.requires.0, used_groups c.args.self.now c.requires.1)

pub returns-clause-blocks : goal.returns-clause-blocks
returns-clause-blocks c = omega (arith, c.held_blocks-2.ensures (held_by (count2 c.args.self.now)) c.requires.0.holds2, tally2 c.args.self.now c.requires.0, used_blocks c.args.self.now c.requires.1)
