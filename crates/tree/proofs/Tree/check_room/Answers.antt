use Rattle.std.proofs.Common.{arith}
use Rattle.std.proofs.lemmas.Bool.Decides.{nat_tests}
use Rattle.tree.specs.Trees.{held_by, count2}
use Rattle.tree.proofs.Facts.{tally2}
use Rattle.tree.proofs.Whole.{used_blocks}
use Rattle.tree.proofs.Tree.check_room.Goals as goal

pub returns-then-held_blocks-size : goal.returns-then-held_blocks-size
returns-then-held_blocks-size c = grind (arith, nat_tests, c.group_fits.ensures, c.held_blocks.ensures (held_by (count2 c.args.self.now)) c.requires.sound.0.holds2, tally2 c.args.self.now c.requires.sound.0, used_blocks c.args.self.now c.requires.sound.1, c.requires.sound.1.words_full c.args.i c.args.j, c.size.ensures)

pub returns : goal.returns
returns c = grind (arith, nat_tests, c.group_fits.ensures, c.held_blocks.ensures (held_by (count2 c.args.self.now)) c.requires.sound.0.holds2, tally2 c.args.self.now c.requires.sound.0, used_blocks c.args.self.now c.requires.sound.1, c.requires.sound.1.words_full c.args.i c.args.j, c.size.ensures)
