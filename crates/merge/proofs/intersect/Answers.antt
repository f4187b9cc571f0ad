use Rattle.std.proofs.Common.{rules}
use lib.Bits.{bit_and, and_zero_l}
use Rattle.tree.specs.Trees.{word}
use Rattle.tree.proofs.Covers.{covers_top}
use Rattle.merge.proofs.Merging.{start_groups, next_group, all_groups}
use Rattle.merge.proofs.intersect.Goals as goal

pub loop-i-init : goal.loop-i-init
loop-i-init g c =
    let s = c.args.tree.now in
    let x = g.X.LevelMasks.word c.args.x.now in
    start_groups bit_and x (word s) s c.requires (λ a b z. cc (z, and_zero_l (x a b))) _ s.level0.mask (search rules) (covers_top s c.requires)

pub loop-i-preserved : goal.loop-i-preserved
loop-i-preserved g c = next_group bit_and (g.X.LevelMasks.word c.args.x.now) c.in-Some.ensures.steps.0 c.loop-i.invariant c.intersect_group.ensures

pub returns : goal.returns
returns g c = record { words = all_groups bit_and (g.X.LevelMasks.word c.args.x.now) c.in-None.ensures.steps.0.0 c.loop-i.invariant }
