use Rattle.tree.proofs.Facts.{within1}
use Rattle.tree.proofs.Tree.slot.Goals as goal

pub at-b-requires : goal.at-b-requires
at-b-requires c = within1 c.args.self.now c.requires.shape c.args.i
