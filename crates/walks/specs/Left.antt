-- What a walk has yet to hand out, from its state.
use Rattle.std.specs.Prelude.{ℕ, List}
use Rattle.operands.specs.declared.bitset_interface.LevelMasks as masks
use Rattle.operands.specs.declared.bitset_interface.LevelMasksIterExt as prepared
use Rattle.walks.specs.declared.block_iter.BlockIter.{BlockIter}
use Rattle.walks.specs.declared.index_iter.IndexIter.{IndexIter}
use Rattle.walks.specs.Pending.{pending}
use Rattle.walks.specs.Indices.{remaining}

-- the pairs that it has yet to hand out
abbrev pub pairs_of : {S B : Type 0} {e : prepared.Ghosts S B} {m : masks.Ghosts S} → BlockIter S B e m → List (ℕ × ℕ)
pairs_of {m = m} it = pending (m.middle it.set) it.i it.left it.top

-- the numbers that it has yet to hand out
abbrev pub numbers_of : {S B : Type 0} {e : prepared.Ghosts S B} {m : masks.Ghosts S} → IndexIter S B e m → List ℕ
numbers_of {m = m} it = remaining (m.middle it.walk.set) (m.word it.walk.set) it.walk.i it.walk.left it.walk.top it.start it.word
