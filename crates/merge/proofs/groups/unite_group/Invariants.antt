use lib.Bits.{bit_or}
use Rattle.merge.specs.Merged.{Merged}
use Rattle.merge.proofs.Queue.{gone_places}
use Rattle.merge.proofs.groups.unite_group.Given as goal

abbrev pub invariant-loop-j : goal.invariant-loop-j
invariant-loop-j g l = Merged bit_or (gone_places l.i l.j-iterator.word) (g.X.LevelMasks.word l.x) l.initial.tree l.tree
