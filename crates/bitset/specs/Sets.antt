-- The set as a roll of members.
use Rattle.std.specs.Prelude.{ℕ, ◌-◌, length}
use Rattle.roll.specs.Members.{members}
use Rattle.roll.specs.Roll.{Roll}
use Rattle.pool.specs.declared.level.Level.{Level}
use Rattle.tree.specs.declared.Tree.{Tree}
use Rattle.tree.specs.Trees.{word}
use Rattle.bitset.specs.declared.BitSet.{BitSet}

-- how many slots a pool has beside slot 0
abbrev pub slots_of : {B : Type 0} → Level B → ℕ
slots_of l = length l.blocks.now - 1

-- the members are the one bits of the words
abbrev pub tree_roll : Tree → Roll
tree_roll t = record { has = members (word t); P = slots_of t.level1; Q = slots_of t.«data» }

abbrev pub roll_of : BitSet → Roll
roll_of s = tree_roll s.tree
