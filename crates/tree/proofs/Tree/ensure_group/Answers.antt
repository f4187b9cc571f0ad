use Rattle.std.proofs.Common.{sym, refl, arith}
use Rattle.std.proofs.lemmas.List.{get_or-set_same}
use Rattle.tree.specs.Trees.{held_by, count1}
use Rattle.tree.proofs.Facts.{tally1}
use Rattle.tree.proofs.Grow.{grow}
use Rattle.tree.proofs.Tree.ensure_group.Goals as goal

pub unreachable-requires : goal.unreachable-requires
unreachable-requires c = omega (arith, (c.in_default.ensures.taken (held_by (count1 c.args.self.now)) c.requires.shape.holds1).tally_full, tally1 c.args.self.now c.requires.shape, c.requires.room (omega arith))

pub returns-clause-grown : goal.returns-clause-grown
returns-clause-grown c = grow c.args.self.now _ c.args.i c.in-Some.b c.requires.shape c.requires.place (omega arith) refl refl (λ a l. c.set_bit-self.ensures a) (c.in-Some.ensures.taken (held_by (count1 c.args.self.now)) c.requires.shape.holds1)

pub returns-clause-slot : goal.returns-clause-slot
returns-clause-slot c = sym (get_or-set_same c.args.self.now.level0.slots c.args.i c.in-Some.b 0 (omega (arith, c.requires.shape.long, c.requires.place)))
