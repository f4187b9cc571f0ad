-- A tree read as 64 * 64 words, and what its calls require and keep.
use Rattle.std.specs.Prelude.{◌≡◌, ℕ, ◌-◌, ◌^◌, ◌<◌, ◌≤◌, Bool, false, cond, length, ◌==◌, nat_lt, slice_index, slice_index_or}
use Rattle.bits.specs.Bit.{bit}
use Rattle.bits.specs.Sums.{total, some, same}
use Rattle.pool.specs.declared.block.Block.{Block}
use Rattle.pool.specs.Kinds.{data_kind, level1_kind}
use Rattle.pool.specs.Levels.{Holds}
use Rattle.tree.specs.declared.Tree.{Tree}

-- how many slots each pool has beside slot 0
abbrev pub slots1 : Tree → ℕ
slots1 s = length s.level1.blocks.now - 1

abbrev pub slots2 : Tree → ℕ
slots2 s = length s.«data».blocks.now - 1

-- the level-1 slot of group i, the block in it, the data slot of block (i, j), and the word in it;
-- what has no slot names slot 0, which is empty
abbrev pub slot1 : Tree → ℕ → ℕ
slot1 s i = slice_index s.level0.slots i

abbrev pub node : Tree → ℕ → Block
node s i = slice_index_or s.level1.blocks.now (slot1 s i) level1_kind.blank

abbrev pub slot2 : Tree → ℕ → ℕ → ℕ
slot2 s i j = slice_index (node s i).slots j

abbrev pub word : Tree → ℕ → ℕ → ℕ
word s i j = slice_index s.«data».blocks.now (slot2 s i j)

-- how often slot k is named
abbrev pub count1 : Tree → ℕ → ℕ
count1 s k = total (λ i. same k (slot1 s i)) 64

abbrev pub count2 : Tree → ℕ → ℕ
count2 s k = total (λ i. total (λ j. same k (slot2 s i j)) 64) 64

-- a slot above 0 is held where it is named
abbrev pub held_by : (ℕ → ℕ) → ℕ → Bool
held_by count k = cond (k == 0) false (nat_lt 0 (count k))

-- how many places name a slot above 0
abbrev pub used1 : Tree → ℕ
used1 s = total (λ i. some (slot1 s i)) 64

abbrev pub used2 : Tree → ℕ
used2 s = total (λ i. total (λ j. some (slot2 s i j)) 64) 64

-- how many words of group i are above 0, how many words in all, and in how many groups
abbrev pub row : Tree → ℕ → ℕ
row s i = total (λ j. some (word s i j)) 64

abbrev pub block_count : Tree → ℕ
block_count s = total (λ i. row s i) 64

abbrev pub group_count : Tree → ℕ
group_count s = total (λ i. some (row s i)) 64

-- no slot above 0 is named twice; the pools hold the slots that are named; slot numbers fit their 8 and 16 bits;
-- words fit 64 bits; a mask bit is 1 exactly where the place names a slot above 0
pub record Shape (s : Tree) : Type 0 where
  pub long : length s.level0.slots ≡ 64
  pub wide : (i : ℕ) → length (node s i).slots ≡ 64
  pub once1 : (k : ℕ) → 0 < k → count1 s k ≤ 1
  pub once2 : (k : ℕ) → 0 < k → count2 s k ≤ 1
  pub holds1 : Holds level1_kind s.level1 (held_by (count1 s))
  pub holds2 : Holds data_kind s.«data» (held_by (count2 s))
  pub few1 : s.level1.fresh ≤ 65
  pub few2 : s.«data».fresh ≤ 4097
  pub fits1 : (i : ℕ) → (node s i).mask < 2 ^ 64
  pub fits2 : (i j : ℕ) → word s i j < 2 ^ 64
  pub top : (i : ℕ) → i < 64 → bit s.level0.mask i ≡ some (slot1 s i)
  pub middle : (i j : ℕ) → j < 64 → bit (node s i).mask j ≡ some (slot2 s i j)

-- no slot is spent on what is empty
pub record Tight (s : Tree) : Type 0 where
  pub groups_full : (i : ℕ) → some (slot1 s i) ≡ some (row s i)
  pub words_full : (i j : ℕ) → some (slot2 s i j) ≡ some (word s i j)

-- what making a tree gives, and its calls require and keep; Stands says what follows for each slot
abbrev pub Sound : Tree → Type 0
Sound s = Shape s × Tight s
