use Rattle.std.proofs.Common.{refl, arith, rules}
use lib.Bits.{bit_or, or_zero_r}
use Rattle.tree.specs.Trees.{word}
use Rattle.merge.proofs.Merging.{start_places, next_place, all_places}
use Rattle.merge.proofs.Union.{has_room, still_fits}
use Rattle.merge.proofs.groups.unite_group.Goals as goal

pub loop-j-init : goal.loop-j-init
loop-j-init g c =
    let x = g.X.LevelMasks.word c.args.x.now in
    start_places bit_or x x c.args.tree.now c.requires.sound (λ a b z. cc (z, or_zero_r (word c.args.tree.now a b)))
    c.args.i _ (g.X.LevelMasks.middle c.args.x.now) (search rules) c.rules.ensures.covers_middle

pub join_block-requires-clause-room : goal.join_block-requires-clause-room
join_block-requires-clause-room g c =
    let e = c.data_mask_from_block_data-w.ensures c.args.i c.init_level1_block_data-mask.ensures.made in
    has_room (g.X.LevelMasks.word c.args.x.now) c.loop-j.tree c.loop-j.invariant.sound c.args.i c.in-Some.j c.requires.place c.in-Some.ensures.steps.0.within (omega (arith, e))
    (still_fits c.loop-j.invariant (record { groups = c.requires.groups; blocks = c.requires.blocks }))

pub loop-j-preserved-then-w-ne0 : goal.loop-j-preserved-then-w-ne0
loop-j-preserved-then-w-ne0 g c =
    let e = c.data_mask_from_block_data-w.ensures c.args.i c.init_level1_block_data-mask.ensures.made in
    next_place bit_or (g.X.LevelMasks.word c.args.x.now) c.in-Some.ensures.steps.0 c.loop-j.invariant (rw e at c.join_block.ensures.put) c.join_block.ensures.lent

pub loop-j-preserved : goal.loop-j-preserved
loop-j-preserved g c =
    let i = c.args.i in
    let j = c.in-Some.j in
    let s = c.loop-j.tree in
    let e = c.data_mask_from_block_data-w.ensures i c.init_level1_block_data-mask.ensures.made in
    next_place bit_or (g.X.LevelMasks.word c.args.x.now) c.in-Some.ensures.steps.0 c.loop-j.invariant
    (record { sound = c.loop-j.invariant.sound; here = cc (or_zero_r (word s i j), e, c.if-w-ne0.false); others = λ _ _ _. refl; room1 = refl; room2 = refl }) (record { upper = refl; lower = refl })

pub returns : goal.returns
returns g c = all_places bit_or (g.X.LevelMasks.word c.args.x.now) c.args.i c.in-None.ensures.steps.0.0 c.loop-j.invariant
