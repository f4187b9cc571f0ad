use Rattle.std.proofs.Common.{rules}
use lib.Bits.{bit_or, or_zero_r}
use Rattle.tree.specs.Trees.{word}
use Rattle.merge.proofs.Merging.{start_groups, next_group, all_groups}
use Rattle.merge.proofs.Union.{accepted, still_fits}
use Rattle.merge.proofs.unite.Goals as goal

pub loop-i-init : goal.loop-i-init
loop-i-init g c =
    let s = c.args.tree.now in
    let x = g.X.LevelMasks.word c.args.x.now in
    start_groups bit_or x x s c.requires (λ a b z. cc (z, or_zero_r (word s a b))) _ (g.X.LevelMasks.top c.args.x.now) (search rules) c.rules.ensures.covers_top

pub unite_group-requires : goal.unite_group-requires
unite_group-requires g c =
    let m = c.loop-i.invariant in
    let f = still_fits m (accepted c.args.tree.now (g.X.LevelMasks.word c.args.x.now) c.in_ok-check_fits.ensures) in
    record { sound = m.sound; place = c.in-Some.ensures.steps.0.within; groups = f.groups; blocks = f.blocks }

pub loop-i-preserved : goal.loop-i-preserved
loop-i-preserved g c = next_group bit_or (g.X.LevelMasks.word c.args.x.now) c.in-Some.ensures.steps.0 c.loop-i.invariant c.unite_group.ensures

pub returns-clause-words : goal.returns-clause-words
returns-clause-words g c = λ _. all_groups bit_or (g.X.LevelMasks.word c.args.x.now) c.in-None.ensures.steps.0.0 c.loop-i.invariant
