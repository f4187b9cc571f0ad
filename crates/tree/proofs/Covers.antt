-- The masks of a sound tree announce every word above 0.
use Rattle.std.proofs.Common.{◌≡◌, ℕ, ◌<◌, arith}
use Rattle.bits.specs.Bit.{bit}
use Rattle.tree.specs.Trees.{node, word, Sound}
use Rattle.tree.specs.declared.Tree.{Tree}
use Rattle.tree.proofs.Facts.{inner1, inner2}
use Rattle.tree.proofs.Clear.{under}

module _ (s : Tree) (t : Sound s) where
  pub covers_top : (i j : ℕ) → 0 < word s i j → bit s.level0.mask i ≡ 1
  covers_top i j p = grind (arith, t.1.words_full i j, under s t.0 i j, inner1 s t.0 i, t.0.top i)

  pub covers_middle : (i j : ℕ) → 0 < word s i j → bit (node s i).mask j ≡ 1
  covers_middle i j p = grind (arith, t.1.words_full i j, inner2 s t.0 i j, t.0.middle i j)
