use Rattle.std.proofs.Common.{sym, arith}
use Rattle.tree.proofs.Facts.{past1}
use Rattle.tree.proofs.Tree.group_slot.Goals as goal

pub returns-else-i-lt64 : goal.returns-else-i-lt64
returns-else-i-lt64 c = sym (past1 c.args.self.now c.requires c.args.i (omega arith))
