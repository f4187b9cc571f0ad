-- Two sets with the same members.
use Rattle.runs.proofs.Same.{same_left, same_asks}
use Rattle.runs.proofs.laws.alike.Goals as goal

pub returns-clause-same : goal.returns-clause-same
returns-clause-same g c =
    λ eu el em ex. rw (
      c.run-answers1.ensures.says,
      c.run-answers2.ensures.says,
      c.after_list-one.ensures.members,
      c.after_list-two.ensures.members,
      same_left c.args.upper1.now c.args.lower1.now c.args.upper2.now c.args.lower2.now (g.S1.Script.asks c.args.s1) (g.S2.Script.asks c.args.s2) eu el em,
      same_asks ex,
    )
