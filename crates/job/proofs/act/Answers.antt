-- the answer of `contains`, at the step that asks for it
use Rattle.std.proofs.Common.{rules}
use Rattle.job.proofs.act.Goals as goal

pub returns-in-Ask-clause-acts : goal.returns-in-Ask-clause-acts
returns-in-Ask-clause-acts c = rw c.in-Ask.is (search rules)
