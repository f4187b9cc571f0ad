use Rattle.std.proofs.Common.{arith}
use Rattle.tree.proofs.Facts.{within2}
use Rattle.tree.proofs.Tree.data_word.Goals as goal

pub at-requires : goal.at-requires
at-requires c = omega (arith, c.slot.ensures, within2 c.args.self.now c.requires.shape c.args.i c.args.j)
