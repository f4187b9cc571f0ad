use Rattle.std.proofs.Common.{refl, rules}
use Rattle.tree.specs.Trees.{held_by, count2}
use Rattle.tree.proofs.Facts.{named2, within1}
use Rattle.tree.proofs.Clear.{clear}
use Rattle.tree.proofs.Tree.drop_block.Goals as goal

pub remove_empty_block-requires-clause-taken : goal.remove_empty_block-requires-clause-taken
remove_empty_block-requires-clause-taken c = (held_by (count2 c.args.self.now), (c.requires.shape.holds2, rw c.slot-c.ensures (named2 c.args.self.now c.requires.shape c.args.i c.args.j c.requires.has)))

pub put_place-requires-clause-slot : goal.put_place-requires-clause-slot
put_place-requires-clause-slot c = within1 c.args.self.now c.requires.shape c.args.i

pub returns-clause-cleared : goal.returns-clause-cleared
returns-clause-cleared c =
    let s = c.args.self.now in
    let h = c.requires.shape in
    let gave = (rw c.slot-c.ensures at c.remove_empty_block.ensures.given) (held_by (count2 s)) h.holds2 (named2 s h c.args.i c.args.j c.requires.has) in
    clear s _ c.args.i c.args.j c.clear_bit-mask.result (search rules) h c.requires.place.1 c.requires.has refl refl (λ a l. rw (← c.middle.ensures) (c.clear_bit-mask.ensures a)) gave c.put_place.ensures.wrote
