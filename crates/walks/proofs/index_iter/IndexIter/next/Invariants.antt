use Rattle.std.proofs.Common.{◌≡◌, length}
use Rattle.walks.specs.Left.{pairs_of, numbers_of}
use Rattle.walks.proofs.index_iter.IndexIter.next.Given as goal

abbrev pub invariant-loop-k : goal.invariant-loop-k
invariant-loop-k g l =
    (l.self.walk.set ≡ l.initial.self.walk.set)
    × (numbers_of l.initial.self ≡ numbers_of l.self)

abbrev pub decreases-loop-k : goal.decreases-loop-k
decreases-loop-k g l = length (pairs_of l.self.walk)
