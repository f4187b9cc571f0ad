-- What a call's result says, as an answer of the roll.
use Rattle.std.specs.Prelude.{Bool, Ok, Err, Result}
use Rattle.roll.specs.declared.Refusal.{Refusal}
use Rattle.roll.specs.Refusals.{number}
use Rattle.roll.specs.Roll.{Answer, Done, Told, Refused}

-- of a change that answers nothing more
abbrev pub outcome : Result (Unit {0}) Refusal → Answer
outcome (Ok u) = Done
outcome (Err e) = Refused (number e)

-- of a change that answers yes or no
abbrev pub found : Result Bool Refusal → Answer
found (Ok b) = Told b
found (Err e) = Refused (number e)
