use Rattle.tree.proofs.Slots.{stands}
use Rattle.tree.proofs.Tree.stands.Goals as goal

pub returns : goal.returns
returns c = stands c.args.self.now c.requires.sound
