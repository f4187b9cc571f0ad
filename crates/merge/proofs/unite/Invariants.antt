use lib.Bits.{bit_or}
use Rattle.merge.specs.Merged.{Merged}
use Rattle.merge.proofs.Queue.{gone_groups}
use Rattle.merge.proofs.unite.Given as goal

abbrev pub invariant-loop-i : goal.invariant-loop-i
invariant-loop-i g l = Merged bit_or (gone_groups l.i-iterator.word) (g.X.LevelMasks.word l.x) l.initial.tree l.tree
