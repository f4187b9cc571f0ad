-- Each answer is the only one of its line.
use Rattle.std.proofs.Common.{MatchResult, rules}
use Rattle.shift.specs.Lines.{Says, Fault}
use Rattle.shift.proofs.Meaning.{only, alone}
use Rattle.shift.proofs.read_step.Goals as goal

pub returns-in_err-try_from : goal.returns-in_err-try_from
returns-in_err-try_from c =
    let told : MatchResult c.from_residual.result (Says c.args.line.now) (Fault c.args.line.now) = search rules in
    record { told = told; only = only _ _ told; alone = alone _ _ told }

pub returns : goal.returns
returns c =
    let told : MatchResult c.step_of.result (Says c.args.line.now) (Fault c.args.line.now) = search rules in
    record { told = told; only = only _ _ told; alone = alone _ _ told }
