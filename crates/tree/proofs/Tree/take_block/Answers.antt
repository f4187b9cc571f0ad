use Rattle.std.proofs.Common.{◌≡◌, sym, refl, arith, rules}
use Rattle.tree.specs.Trees.{held_by, count2, node}
use Rattle.tree.specs.declared.Tree.{Tree}
use Rattle.tree.proofs.Facts.{tally2, within1}
use Rattle.tree.proofs.Fill.{fill}
use Rattle.tree.proofs.Tree.take_block.Goals as goal

pub at-requires : goal.at-requires
at-requires c = omega (arith, c.requires.group, within1 c.args.self.now c.requires.shape c.args.i)

pub put_place-requires-clause-slot : goal.put_place-requires-clause-slot
put_place-requires-clause-slot c = omega (arith, c.requires.group, within1 c.args.self.now c.requires.shape c.args.i)

pub unreachable-requires : goal.unreachable-requires
unreachable-requires c = omega (arith, (c.in_default.ensures.taken (held_by (count2 c.args.self.now)) c.requires.shape.holds2).tally_full, tally2 c.args.self.now c.requires.shape, c.requires.room)

pub returns : goal.returns
returns c =
    let s = c.args.self.now in
    let h = c.requires.shape in
    let s' : Tree = record { level0 = s.level0; level1 = c.put_place.new.self; «data» = c.insert_empty_block.new.self } in
    let e : c.at.result.now ≡ node s c.args.i = rw (← c.requires.group) c.at.ensures in
    let got = c.in-Some.ensures.taken (held_by (count2 s)) h.holds2 in
    let f = fill s s' c.args.i c.args.j c.set_bit-mask.result c.in-Some.c (search rules) h c.requires.place.1 c.requires.has c.requires.none refl refl (λ a l. rw (← e) (c.set_bit-mask.ensures a)) got (rw c.requires.group at c.put_place.ensures.wrote) in
    record { filled = f.0; slot = sym f.1; lent = record { upper = c.put_place.ensures.lent; lower = c.in-Some.ensures.lent } }
