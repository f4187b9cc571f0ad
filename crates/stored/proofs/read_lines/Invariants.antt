use Rattle.std.proofs.Common.{Some, map}
use Rattle.std.specs.Fn.{FnReturnsAt}
use Rattle.std.specs.List.{AllZip}
use Rattle.stored.proofs.read_lines.Given as goal

abbrev pub invariant-loop-line : goal.invariant-loop-line
invariant-loop-line g l = AllZip (λ line item. FnReturnsAt g.F.Fn l.read line (Some item)) (map (λ line. line.now) l.yielded) l.items.items
