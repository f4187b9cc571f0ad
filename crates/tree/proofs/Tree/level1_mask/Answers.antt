use Rattle.std.proofs.Common.{sym, ap, arith}
use Rattle.pool.specs.declared.block.Block.{Block}
use Rattle.tree.proofs.Facts.{node0, past1}
use Rattle.tree.proofs.Tree.level1_mask.Goals as goal

pub returns-else-i-lt64 : goal.returns-else-i-lt64
returns-else-i-lt64 c = sym (ap (λ (b : Block). b.mask) (node0 c.args.self.now c.requires c.args.i (past1 c.args.self.now c.requires c.args.i (omega arith))))
