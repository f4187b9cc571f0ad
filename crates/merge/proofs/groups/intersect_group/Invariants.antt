use lib.Bits.{bit_and}
use Rattle.merge.specs.Merged.{Merged}
use Rattle.merge.proofs.Queue.{gone_places}
use Rattle.merge.proofs.groups.intersect_group.Given as goal

abbrev pub invariant-loop-j : goal.invariant-loop-j
invariant-loop-j g l = Merged bit_and (gone_places l.i l.j-iterator.word) (g.X.LevelMasks.word l.x) l.initial.tree l.tree
