use Rattle.std.proofs.Common.{refl, arith, rules}
use Rattle.tree.proofs.Facts.{within2}
use Rattle.tree.proofs.Fill.{store}
use Rattle.tree.proofs.Whole.{ored}
use Rattle.tree.proofs.Room.{room_group, room_block}
use Rattle.tree.proofs.Tree.fill_block.Goals as goal

pub ensure_group-b-requires-clause-room : goal.ensure_group-b-requires-clause-room
ensure_group-b-requires-clause-room c = room_group c.args.self.now c.requires.sound c.args.i c.args.j c.requires.room

pub take_block-c-requires-clause-none : goal.take_block-c-requires-clause-none
take_block-c-requires-clause-none c = rw (c.ensure_group-b.ensures.grown.nodes c.args.i) c.requires.none

pub take_block-c-requires-clause-room : goal.take_block-c-requires-clause-room
take_block-c-requires-clause-room c = room_block c.args.self.now c.requires.sound _ c.args.i c.args.j c.ensure_group-b.ensures.grown c.requires.none c.requires.room

pub put-requires : goal.put-requires
put-requires c =
    let f = c.take_block-c.ensures in
    omega (arith, f.slot, within2 c.take_block-c.new.self f.filled.shape c.args.i c.args.j)

pub returns-clause-put : goal.returns-clause-put
returns-clause-put c =
    let s₂ = c.take_block-c.new.self in
    let f = c.take_block-c.ensures.filled in
    let st = store s₂ (record { level0 = s₂.level0; level1 = s₂.level1; «data» = c.put.new.self }) c.args.i c.args.j c.args.w (search rules) f.shape f.has refl refl refl (rw c.take_block-c.ensures.slot at c.put.ensures.wrote) in
    ored c.args.self.now c.ensure_group-b.new.self s₂ _ c.args.i c.args.j c.args.w c.requires.place.1 c.requires.sound.1 c.requires.some c.ensure_group-b.ensures.grown f st
