use Rattle.std.proofs.Common.{arith}
use Rattle.tree.proofs.Facts.{word0, slot0, past1, past2}
use Rattle.tree.proofs.Tree.data_mask.Goals as goal

pub returns-else-i-lt64 : goal.returns-else-i-lt64
returns-else-i-lt64 c = grind (arith, word0 c.args.self.now c.requires c.args.i c.args.j, slot0 c.args.self.now c.requires c.args.i c.args.j, past1 c.args.self.now c.requires c.args.i, past2 c.args.self.now c.requires c.args.i c.args.j)
