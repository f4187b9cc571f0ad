use Rattle.std.proofs.Common.{◌≡◌, ℕ, ◌<◌, ap, ◌∙◌, arith, rules}
use Rattle.bits.specs.Bit.{bit}
use Rattle.tree.specs.Trees.{word}
use Rattle.merge.specs.Merged.{united}
use Rattle.merge.proofs.Queue.{sum_lost, sum_end}
use Rattle.merge.proofs.Union.{groups_most, blocks_most}
use Rattle.merge.proofs.Counted.{adds_group, adds_blocks, groups_start, blocks_start}
use Rattle.merge.proofs.additions.additions.Goals as goal

pub loop-i-init : goal.loop-i-init
loop-i-init g c =
    let s = c.args.tree.now in
    let x = g.X.LevelMasks.word c.args.x.now in
    let top = c.into_iter-i-iterator.result.word in
    let e : top ≡ c.level0_mask.result = search rules in
    let covers : (i j : ℕ) → 0 < x i j → bit top i ≡ 1 = λ i j p. ap (λ m. bit m i) (e ∙ c.level0_mask.ensures) ∙ c.rules.ensures.covers_top i j p in
    (omega (arith, groups_start s x top covers), omega (arith, blocks_start s x top covers))

pub overflow_add-groups : goal.overflow_add-groups
overflow_add-groups g c =
    let s = c.args.tree.now in
    let x = g.X.LevelMasks.word c.args.x.now in
    omega (arith, sum_lost _ _ _ (adds_group s x) c.in-Some.ensures.steps.0, c.added-g.ensures.groups, c.loop-i.invariant.0, groups_most (united (word s) x))

pub overflow_add-blocks : goal.overflow_add-blocks
overflow_add-blocks g c =
    let s = c.args.tree.now in
    let x = g.X.LevelMasks.word c.args.x.now in
    omega (arith, sum_lost _ _ _ (adds_blocks s x) c.in-Some.ensures.steps.0, c.added-g.ensures.blocks, c.loop-i.invariant.1, blocks_most (united (word s) x))

pub loop-i-preserved : goal.loop-i-preserved
loop-i-preserved g c =
    let s = c.args.tree.now in
    let x = g.X.LevelMasks.word c.args.x.now in
    let h = c.in-Some.ensures.steps.0 in
    (omega (arith, sum_lost _ _ _ (adds_group s x) h, c.added-g.ensures.groups, c.loop-i.invariant.0), omega (arith, sum_lost _ _ _ (adds_blocks s x) h, c.added-g.ensures.blocks, c.loop-i.invariant.1))

pub returns : goal.returns
returns g c =
    let s = c.args.tree.now in
    let x = g.X.LevelMasks.word c.args.x.now in
    let z = c.in-None.ensures.steps.0.0 in
    record {
      groups = omega (arith, c.loop-i.invariant.0, sum_end c.loop-i.i-iterator.word (adds_group s x) z);
      blocks = omega (arith, c.loop-i.invariant.1, sum_end c.loop-i.i-iterator.word (adds_blocks s x) z);
    }
