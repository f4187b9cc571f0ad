use Rattle.std.proofs.Common.{◌≡◌, ◌++◌, drop, vec_items}
use Rattle.acts.specs.Answers.{answers}
use Rattle.seeks.proofs.run.Given as goal

abbrev pub invariant-loop-a : goal.invariant-loop-a
invariant-loop-a g l =
    let all = g.W.Walk.all l.initial.walk in
    (g.W.Walk.all l.walk ≡ all)
    × (vec_items l.out ++ answers g.W.Walk.cut all (g.W.Walk.left l.walk) (drop l.a-index l.actions)
    ≡ answers g.W.Walk.cut all (g.W.Walk.left l.initial.walk) l.actions)
