use Rattle.tree.proofs.Facts.{within1}
use Rattle.tree.proofs.Tree.middle.Goals as goal

pub at-requires : goal.at-requires
at-requires c = within1 c.args.self.now c.requires.shape c.args.i
