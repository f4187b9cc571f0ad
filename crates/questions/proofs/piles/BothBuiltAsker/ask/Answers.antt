-- A combination's members, at every index at once.
use mathlib.Core.Path.{ap, fun_ext, ◌∙◌}
use Rattle.questions.proofs.piles.BothBuiltAsker.ask.Goals as goal

pub returns : goal.returns
returns g c = c.ask.ensures ∙ ap (g.K.Asker.wants c.args.self.asker) (fun_ext c.combines.ensures)
