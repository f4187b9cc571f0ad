-- The blocks that a walk hands out, and those of a set of indices.
use Rattle.std.specs.Prelude.{ℕ, zero, suc, ◌+◌, ◌*◌, ◌^◌, Bool, cond, List, [], ◌∷◌, map, filter, nat_le}
use Rattle.bits.specs.Sums.{total}
use Rattle.roll.specs.Members.{one, any}
use Rattle.walks.specs.declared.block_iter.DataBlock.{DataBlock}
use Rattle.walks.specs.Pending.{whole}
use Rattle.walks.specs.Indices.{start_of}

-- a pair as a block: its first index and its data word
abbrev pub block_of : (ℕ → ℕ → ℕ) → ℕ × ℕ → DataBlock
block_of word p = record { start_index = start_of p; bit_block = word p.0 p.1 }

-- the blocks of a list of pairs
unfoldable pub block_list : (ℕ → ℕ → ℕ) → List (ℕ × ℕ) → List DataBlock
block_list word ps = map (block_of word) ps

-- the blocks that the masks of an operand announce
abbrev pub announced : ℕ → (ℕ → ℕ) → (ℕ → ℕ → ℕ) → List DataBlock
announced top middle word = block_list word (whole middle top)

-- the blocks of a list whose last index is at s or past it
unfoldable pub reaching : ℕ → List DataBlock → List DataBlock
reaching s bs = filter (λ b. nat_le s (b.start_index + 63)) bs

-- the word of the 64 indices from s on: its bit k is 1 where M has s + k
unfoldable pub word_of : (ℕ → Bool) → ℕ → ℕ
word_of M s = total (λ k. one (M (s + k)) * 2 ^ k) 64

-- the block of M from s on
abbrev pub block_at : (ℕ → Bool) → ℕ → DataBlock
block_at M s = record { start_index = s; bit_block = word_of M s }

-- the blocks in which M has an index among the n blocks from number b on, in rising order
unfoldable pub fill : (ℕ → Bool) → ℕ → ℕ → List DataBlock
fill M zero b = []
fill M (suc n) b = cond (any M (64 * b) 64) (block_at M (64 * b) ∷ fill M n (suc b)) (fill M n (suc b))

-- those of all 64 * 64 blocks
unfoldable pub filled : (ℕ → Bool) → List DataBlock
filled M = fill M 4096 0
