use Rattle.std.proofs.Common.{rules}
use lib.Bits.{bit_and, and_zero_l}
use Rattle.tree.specs.Trees.{node, word}
use Rattle.tree.proofs.Covers.{covers_middle}
use Rattle.merge.proofs.Merging.{start_places, next_place, all_places}
use Rattle.merge.proofs.groups.intersect_group.Goals as goal

pub loop-j-init : goal.loop-j-init
loop-j-init g c =
    let s = c.args.tree.now in
    let x = g.X.LevelMasks.word c.args.x.now in
    start_places bit_and x (word s) s c.requires.sound (λ a b z. cc (z, and_zero_l (x a b))) c.args.i _ (λ a. (node s a).mask) (search rules) (covers_middle s c.requires.sound)

pub loop-j-preserved : goal.loop-j-preserved
loop-j-preserved g c =
    let e = c.data_mask_from_block_data-w.ensures c.args.i c.init_level1_block_data-block.ensures.made in
    next_place bit_and (g.X.LevelMasks.word c.args.x.now) c.in-Some.ensures.steps.0 c.loop-j.invariant (rw e at c.and_block.ensures.put) c.and_block.ensures.lent

pub returns : goal.returns
returns g c = all_places bit_and (g.X.LevelMasks.word c.args.x.now) c.args.i c.in-None.ensures.steps.0.0 c.loop-j.invariant
