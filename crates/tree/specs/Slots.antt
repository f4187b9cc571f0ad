-- What becomes of each slot, of a sound tree, in terms of entries.
use Rattle.std.specs.Prelude.{◌≡◌, ℕ, ◌+◌, ◌-◌, ◌*◌, ◌<◌, min, List, length, slice_index}
use Rattle.bits.specs.Bit.{bit}
use Rattle.bits.specs.Sums.{total, some, same}
use Rattle.roll.specs.Members.{one, groups, blocks, members}
use Rattle.pool.specs.Kinds.{Kind, level1_kind, data_kind}
use Rattle.pool.specs.Pool.{Linked, times}
use Rattle.pool.specs.declared.level.Level.{Level}
use Rattle.tree.specs.Trees.{slot1, node, slot2, word}
use Rattle.tree.specs.declared.Tree.{Tree}

-- an entry is a place whose mask bit is 1: in the level-0 block, or in a level-1 block that a level-0 entry holds
abbrev pub entry1 : Tree → ℕ → ℕ
entry1 s i = bit s.level0.mask i

abbrev pub entry2 : Tree → ℕ → ℕ → ℕ
entry2 s i j = min (entry1 s i) (bit (node s i).mask j)

-- how many entries hold slot k
abbrev pub holders1 : Tree → ℕ → ℕ
holders1 s k = total (λ i. min (entry1 s i) (same k (slot1 s i))) 64

abbrev pub holders2 : Tree → ℕ → ℕ
holders2 s k = total (λ i. total (λ j. min (entry2 s i j) (same k (slot2 s i j))) 64) 64

-- each slot but slot 0 is held by one entry, or stands once on the chain, or was never taken, and one of these only
abbrev pub OnceEach : {B : Type 0} → Kind B → Level B → (ℕ → ℕ) → Type 0
OnceEach kind l holders = (chain : List ℕ) × (Linked kind l.blocks.now l.root_empty_block chain × ((k : ℕ) → 0 < k → holders k + times k chain + some ((k + 1) - l.fresh) ≡ 1))

pub record Stands (s : Tree) : Type 0 where
  pub upper_slots : OnceEach level1_kind s.level1 (holders1 s)
  pub lower_slots : OnceEach data_kind s.«data» (holders2 s)
  -- as many slots are held as the members have nonempty groups, and nonempty blocks
  pub upper_held : total (holders1 s) (length s.level1.blocks.now) ≡ groups (members (word s))
  pub lower_held : total (holders2 s) (length s.«data».blocks.now) ≡ blocks (members (word s))
  -- the members are the one bits of the data slots that entries hold, placed by the entries
  pub placed : (i j k : ℕ) → i < 64 → j < 64 → k < 64 → one (members (word s) (4096 * i + 64 * j + k)) ≡ min (entry2 s i j) (bit (slice_index s.«data».blocks.now (slot2 s i j)) k)
  -- a place whose mask bit is 0 has slot number 0
  pub no_entry1 : (i : ℕ) → i < 64 → entry1 s i ≡ 0 → slot1 s i ≡ 0
  pub no_entry2 : (i j : ℕ) → j < 64 → bit (node s i).mask j ≡ 0 → slot2 s i j ≡ 0
