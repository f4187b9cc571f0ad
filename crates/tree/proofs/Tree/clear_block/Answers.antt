use Rattle.std.proofs.Common.{arith, rules}
use Rattle.tree.proofs.Clear.{under}
use Rattle.tree.proofs.Whole.{thinned, emptied}
use Rattle.tree.proofs.Tree.clear_block.Goals as goal

pub returns-then-left-eq0-clause-put : goal.returns-then-left-eq0-clause-put
returns-then-left-eq0-clause-put c = emptied c.args.self.now c.drop_block.new.self c.args.i c.args.j c.requires.sound.1 c.drop_block.ensures.cleared _ (omega (arith, c.middle-left.ensures)) c.drop_group.ensures.shrunk

pub returns-else-left-eq0-clause-put : goal.returns-else-left-eq0-clause-put
returns-else-left-eq0-clause-put c = thinned c.args.self.now c.drop_block.new.self c.args.i c.args.j c.requires.sound.1 c.drop_block.ensures.cleared (under c.args.self.now c.requires.sound.0 c.args.i c.args.j c.requires.has) (omega (arith, c.middle-left.ensures)) (rw (← c.middle-left.ensures) (search rules))
