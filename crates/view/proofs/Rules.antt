-- The rules of a stored set: its masks are exact.
use Rattle.std.proofs.Common.{◌^◌, ◌<◌, true, ap, arith}
use Rattle.bits.proofs.Laws.{bit_pos}
use Rattle.pool.specs.declared.block.Block.{Block}
use Rattle.bits.specs.Sums.{some}
use Rattle.tree.specs.Trees.{node, word, Sound}
use Rattle.tree.specs.declared.Tree.{Tree}
use Rattle.tree.proofs.Covers.{covers_top, covers_middle}
use Rattle.tree.proofs.Facts.{past1, past2, node0, slot0, word0}
use Rattle.bits.proofs.Totals.{total_some}
use Rattle.operands.proofs.Applied.{bit_place}
use Rattle.operands.specs.Ruled.{Ruled}

module _ (s : Tree) (t : Sound s) where
  pub set_ruled : s.level0.mask < 2 ^ 64 → Ruled true s.level0.mask (λ i. (node s i).mask) (word s)
  set_ruled f = record {
    top_fits = f;
    middle_fits = t.0.fits1;
    word_fits = t.0.fits2;
    middle_past = λ i l. ap (λ (b : Block). b.mask) (node0 s t.0 i (past1 s t.0 i l));
    word_past_i = λ i j l. word0 s t.0 i j (slot0 s t.0 i j (past1 s t.0 i l));
    word_past_j = λ i j l. word0 s t.0 i j (past2 s t.0 i j l);
    covers_top = covers_top s t;
    covers_middle = covers_middle s t;
    trusts_top = λ _ i b.
        let l = bit_place s.level0.mask i f b in
        let w = total_some (λ j. some (word s i j)) 64 (omega (arith, t.0.top i l, t.1.groups_full i)) in
        bit_pos (node s i).mask w.0 (covers_middle s t i w.0 (omega (arith, w.2)));
    trusts_middle = λ _ i j b. omega (arith, t.0.middle i j (bit_place (node s i).mask j (t.0.fits1 i) b), t.1.words_full i j);
  }
