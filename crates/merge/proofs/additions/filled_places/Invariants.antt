use Rattle.std.proofs.Common.{◌≡◌, ℕ, ◌<◌, ◌≤◌, min, max}
use Rattle.bits.specs.Bit.{bit}
use Rattle.bits.specs.Sums.{some}
use Rattle.merge.proofs.additions.filled_places.Given as goal

-- places that are left are still there, and the others where there is a word
abbrev pub invariant-loop-j : goal.invariant-loop-j
invariant-loop-j g l = (j : ℕ) → j < 64 → (bit l.j-iterator.word j ≤ bit l.announced j) × (bit l.filled j ≡ max (bit l.j-iterator.word j) (min (bit l.announced j) (some (g.X.LevelMasks.word l.x l.i j))))
