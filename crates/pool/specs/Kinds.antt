-- The kinds of block, by their empty value and the link in the first mask word.
use Rattle.std.specs.Prelude.{ℕ, replicate, slice_set}
use Rattle.pool.specs.declared.block.Block.{Block}

-- the empty block, the link in a block, and the block with another link
pub record Kind (B : Type 0) : Type 0 where
  pub blank : B
  pub link : B → ℕ
  pub relink : B → ℕ → B

-- one word
abbrev pub data_kind : Kind ℕ
data_kind = record { blank = 0; link = λ b. b; relink = λ b n. n }

-- a mask and 64 slot numbers; the link stands in the mask
abbrev pub level1_kind : Kind Block
level1_kind = record { blank = record { mask = 0; slots = replicate 64 0 }; link = λ b. b.mask; relink = λ b n. record { mask = n; slots = b.slots } }

-- a level-1 block with another mask and another slot number at place k
abbrev pub with_place : Block → ℕ → ℕ → ℕ → Block
with_place b k mask slot = record { mask = mask; slots = slice_set b.slots k slot }
