use Rattle.std.proofs.Common.{arith}
use Rattle.std.proofs.lemmas.Bool.Decides.{nat_tests}
use Rattle.tree.specs.Trees.{held_by, count1}
use Rattle.tree.proofs.Facts.{tally1}
use Rattle.tree.proofs.Whole.{used_groups}
use Rattle.tree.proofs.Room.{has_group}
use Rattle.tree.proofs.Tree.group_fits.Goals as goal

pub returns-then-self-i-ne0 : goal.returns-then-self-i-ne0
returns-then-self-i-ne0 c = grind (arith, nat_tests, has_group c.args.self.now c.requires.sound c.args.i)

pub returns : goal.returns
returns c = grind (arith, nat_tests, c.held_blocks.ensures (held_by (count1 c.args.self.now)) c.requires.sound.0.holds1, tally1 c.args.self.now c.requires.sound.0, used_groups c.args.self.now c.requires.sound.1, c.requires.sound.1.groups_full c.args.i, c.size.ensures)
