-- One step and one seek of a walk over blocks, by the blocks that are left.
use Rattle.std.proofs.Common.{◌≡◌, ℕ, List, [], ◌∷◌, Some, None, Option, refl, arith}
use Rattle.bits.specs.Places.{Taken}
use Rattle.walks.specs.declared.block_iter.DataBlock.{DataBlock}
use Rattle.walks.specs.Pending.{onward, Handed}
use Rattle.acts.specs.Blocks.{block_list, reaching}

module _ (word : ℕ → ℕ → ℕ) where
  pub blocks_taken : (xs : List (ℕ × ℕ)) (r : Option DataBlock) (ys : List (ℕ × ℕ)) → Handed word xs r ys → Taken (block_list word xs) r (block_list word ys)
  unfolding block_list
  blocks_taken xs None ys h = (rw h.0, rw h.1)
  blocks_taken xs (Some b) ys h = rw h.1.0 (rw (← h.1.1, ← h.1.2))

  pub blocks_onward : (s : ℕ) (ps : List (ℕ × ℕ)) → block_list word (onward s ps) ≡ reaching s (block_list word ps)
  unfolding block_list onward reaching
  blocks_onward s [] = refl
  blocks_onward s (p ∷ ps) = grind (arith, blocks_onward s ps)
