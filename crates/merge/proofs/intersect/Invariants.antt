use lib.Bits.{bit_and}
use Rattle.merge.specs.Merged.{Merged}
use Rattle.merge.proofs.Queue.{gone_groups}
use Rattle.merge.proofs.intersect.Given as goal

abbrev pub invariant-loop-i : goal.invariant-loop-i
invariant-loop-i g l = Merged bit_and (gone_groups l.i-iterator.word) (g.X.LevelMasks.word l.x) l.initial.tree l.tree
