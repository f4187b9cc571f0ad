use Rattle.std.proofs.Common.{vec_items, sym, ap, ◌∙◌, append-nil}
use Rattle.std.proofs.lemmas.List.{drop_all}
use Rattle.seeks.proofs.Steps.{step_next, step_seek}
use Rattle.seeks.proofs.run.Goals as goal
use Rattle.seeks.proofs.run.Goals.{in-Next+in_ok-push-in-Next, in-Seek}

pub loop-a-preserved : goal.loop-a-preserved
loop-a-preserved g c =
    let cut = g.W.Walk.cut in
    let all = g.W.Walk.all c.args.walk.now in
    let acts = c.args.actions.now in
    let i = c.loop-a.a-index in
    let xs = g.W.Walk.left c.loop-a.walk in
    let out = vec_items c.loop-a.out in
    elim c.match-a.branch [
      | in-Next+in_ok-push-in-Next w ↦ (
        ap g.W.Walk.all w.walk-is ∙ w.step.ensures.same ∙ c.loop-a.invariant.0,
        rw (w.out-is, w.walk-is) (step_next cut all acts i c.loop-a-test.true xs (g.W.Walk.left w.step.new.self) out w.step.result _ w.in-Next.is w.step.ensures.taken w.in_ok-push-in-Next.ensures.items ∙ c.loop-a.invariant.1),
      )
      | in-Seek w ↦ (
        ap g.W.Walk.all w.walk-is ∙ w.seek.ensures.same ∙ c.loop-a.invariant.0,
        rw (w.out-is, w.walk-is) (step_seek cut all acts i c.loop-a-test.true xs (g.W.Walk.left w.seek.new.self) out w.in-Seek.s w.in-Seek.is
            (w.seek.ensures.goes ∙ ap (cut w.in-Seek.s) c.loop-a.invariant.0)
            ∙ c.loop-a.invariant.1),
      )
    ]

pub returns : goal.returns
returns g c = sym (append-nil (vec_items c.loop-a.out)) ∙ (rw (drop_all c.loop-a.a-index c.args.actions.now c.loop-a-test.false) at c.loop-a.invariant.1)
