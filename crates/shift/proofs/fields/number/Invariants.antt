use Rattle.std.proofs.Common.{◌≡◌, ◌^◌, ◌<◌, take}
use Rattle.std.specs.List.{AllByRecursion}
use Rattle.shift.specs.Numbers.{Digit, value}
use Rattle.shift.proofs.fields.number.Given as goal

-- the digits so far write n
abbrev pub invariant-loop-b : goal.invariant-loop-b
invariant-loop-b l = AllByRecursion Digit (take l.b-index l.field) × (l.n ≡ value (take l.b-index l.field)) × (l.n < 10 ^ l.b-index)
