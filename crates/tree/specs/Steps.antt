-- What the steps of a change leave of a tree s: the tree s'.
use Rattle.std.specs.Prelude.{◌≡◌, ℕ, ◌+◌, ◌-◌, ◌<◌, cond, ◌≢◌, length, nat_le}
use Rattle.bits.specs.Sums.{some}
use Rattle.roll.specs.Roll.{Answer, Done, Refused}
use Rattle.tree.specs.Trees.{slots1, slots2, slot1, node, slot2, word, row, group_count, block_count, Shape, Sound}
use Rattle.tree.specs.declared.Tree.{Tree}

-- both pools are still over the slices that they were lent
pub record Lent (s s' : Tree) : Type 0 where
  pub upper : s'.level1.blocks.ghost_name ≡ s.level1.blocks.ghost_name
  pub lower : s'.«data».blocks.ghost_name ≡ s.«data».blocks.ghost_name

-- group i has a slot; every group's block is as it was
pub record Grown (s s' : Tree) (i : ℕ) : Type 0 where
  pub shape : Shape s'
  pub has : 0 < slot1 s' i
  pub others : (a : ℕ) → a ≢ i → slot1 s' a ≡ slot1 s a
  pub nodes : (a : ℕ) → node s' a ≡ node s a
  pub data_same : s'.«data» ≡ s.«data»
  pub room1 : length s'.level1.blocks.now ≡ length s.level1.blocks.now

-- block (i, j) has a slot; every word is as it was
pub record Filled (s s' : Tree) (i j : ℕ) : Type 0 where
  pub shape : Shape s'
  pub has : 0 < slot2 s' i j
  pub slots : s'.level0.slots ≡ s.level0.slots
  pub others : (a b : ℕ) → ((a ≡ i) × (b ≡ j) → ⊥) → slot2 s' a b ≡ slot2 s a b
  pub words : (a b : ℕ) → word s' a b ≡ word s a b
  pub room1 : length s'.level1.blocks.now ≡ length s.level1.blocks.now
  pub room2 : length s'.«data».blocks.now ≡ length s.«data».blocks.now

-- word (i, j), which has a slot, is v
pub record Stored (s s' : Tree) (i j v : ℕ) : Type 0 where
  pub shape : Shape s'
  pub slots : s'.level0.slots ≡ s.level0.slots
  pub nodes : (a : ℕ) → node s' a ≡ node s a
  pub here : word s' i j ≡ v
  pub others : (a b : ℕ) → ((a ≡ i) × (b ≡ j) → ⊥) → word s' a b ≡ word s a b
  pub room1 : length s'.level1.blocks.now ≡ length s.level1.blocks.now
  pub room2 : length s'.«data».blocks.now ≡ length s.«data».blocks.now

-- block (i, j) has no slot any more
pub record Cleared (s s' : Tree) (i j : ℕ) : Type 0 where
  pub shape : Shape s'
  pub slots : s'.level0.slots ≡ s.level0.slots
  pub gone : slot2 s' i j ≡ 0
  pub others : (a b : ℕ) → ((a ≡ i) × (b ≡ j) → ⊥) → slot2 s' a b ≡ slot2 s a b
  pub words : (a b : ℕ) → ((a ≡ i) × (b ≡ j) → ⊥) → word s' a b ≡ word s a b
  pub room1 : length s'.level1.blocks.now ≡ length s.level1.blocks.now
  pub room2 : length s'.«data».blocks.now ≡ length s.«data».blocks.now

-- group i has no slot any more; every group's block is as it was
pub record Shrunk (s s' : Tree) (i : ℕ) : Type 0 where
  pub shape : Shape s'
  pub gone : slot1 s' i ≡ 0
  pub others : (a : ℕ) → a ≢ i → slot1 s' a ≡ slot1 s a
  pub nodes : (a : ℕ) → node s' a ≡ node s a
  pub data_same : s'.«data» ≡ s.«data»
  pub room1 : length s'.level1.blocks.now ≡ length s.level1.blocks.now

-- a whole change: word (i, j) is v and the other words are as they were
pub record Put (s s' : Tree) (i j v : ℕ) : Type 0 where
  pub sound : Sound s'
  pub here : word s' i j ≡ v
  pub others : (a b : ℕ) → ((a ≡ i) × (b ≡ j) → ⊥) → word s' a b ≡ word s a b
  pub room1 : length s'.level1.blocks.now ≡ length s.level1.blocks.now
  pub room2 : length s'.«data».blocks.now ≡ length s.«data».blocks.now

-- how many groups and blocks are not empty once block (i, j) is not
abbrev pub groups_with : Tree → ℕ → ℕ
groups_with s i = group_count s + (1 - some (row s i))

abbrev pub blocks_with : Tree → ℕ → ℕ → ℕ
blocks_with s i j = block_count s + (1 - some (word s i j))

-- whether there is room for block (i, j), or which pool is full
abbrev pub room : Tree → ℕ → ℕ → Answer
room s i j = cond (nat_le (groups_with s i) (slots1 s)) (cond (nat_le (blocks_with s i j) (slots2 s)) Done (Refused 4)) (Refused 3)
