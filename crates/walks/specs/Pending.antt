-- The pairs (i, j) of a walk over blocks, in order.
use Rattle.std.specs.Prelude.{◌≡◌, ℕ, ◌+◌, ◌*◌, ◌<◌, Bool, List, [], ◌∷◌, ◌++◌, Some, None, filter, Option, nat_le}
use Rattle.bits.specs.Places.{places}
use Rattle.walks.specs.declared.block_iter.DataBlock.{DataBlock}

-- the pairs of i with each of js
unfoldable pub row : ℕ → List ℕ → List (ℕ × ℕ)
row i [] = []
row i (j ∷ js) = (i, j) ∷ row i js

-- the pairs of each place i of a list with each one bit of its middle word
unfoldable pub rows : (ℕ → ℕ) → List ℕ → List (ℕ × ℕ)
rows middle [] = []
rows middle (i ∷ is) = row i (places (middle i)) ++ rows middle is

-- the pairs that an iterator has yet to hand out: what is left of row i, then the rows that are left of the top word
unfoldable pub pending : (ℕ → ℕ) → ℕ → ℕ → ℕ → List (ℕ × ℕ)
pending middle i left top = row i (places left) ++ rows middle (places top)

-- the pairs of a whole walk
unfoldable pub whole : (ℕ → ℕ) → ℕ → List (ℕ × ℕ)
whole middle top = rows middle (places top)

-- whether the block of a pair reaches s: its last number is at s or past it
abbrev pub reaches : ℕ → ℕ × ℕ → Bool
reaches s p = nat_le s (4096 * p.0 + 64 * p.1 + 63)

-- the pairs of a list whose blocks reach s
unfoldable pub onward : ℕ → List (ℕ × ℕ) → List (ℕ × ℕ)
onward s ps = filter (reaches s) ps

-- what a call hands out of xs, where ys are left: the first pair, as its start and its data word; nothing comes from
-- the empty list alone
abbrev pub Handed : (ℕ → ℕ → ℕ) → List (ℕ × ℕ) → Option DataBlock → List (ℕ × ℕ) → Type 0
Handed word xs None ys = (xs ≡ []) × (ys ≡ [])
Handed word xs (Some b) ys = (p : ℕ × ℕ) × ((xs ≡ p ∷ ys) × (b.start_index ≡ 4096 * p.0 + 64 * p.1) × (b.bit_block ≡ word p.0 p.1) × (p.0 < 64) × (p.1 < 64))
