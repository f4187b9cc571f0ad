use Rattle.std.proofs.Common.{◌≡◌, length}
use Rattle.bits.specs.Places.{places}
use Rattle.walks.specs.Left.{pairs_of}
use Rattle.walks.proofs.block_iter.BlockIter.next.Given as goal

abbrev pub invariant-loop-j : goal.invariant-loop-j
invariant-loop-j g l =
    (l.self.set ≡ l.initial.self.set)
    × (pairs_of l.initial.self ≡ pairs_of l.self)

abbrev pub decreases-loop-j : goal.decreases-loop-j
decreases-loop-j g l = length (places l.self.top)
