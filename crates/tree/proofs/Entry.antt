-- One entry of a group's block is written, with its mask.
use Rattle.std.proofs.Common.{◌≡◌, ℕ, ◌+◌, ◌^◌, ◌<◌, ◌≤◌, ◌≢◌, set, arith, length-set, get_or-set_other, get_or-set_same}
use Rattle.bits.specs.Bit.{bit}
use Rattle.pool.specs.Levels.{Wrote, Holds}
use Rattle.pool.specs.Kinds.{data_kind}
use Rattle.pool.proofs.Chains.{sound_write, sound_same}
use Rattle.bits.specs.Sums.{some, same}
use Rattle.tree.specs.Trees.{slot1, node, slot2, word, count2, held_by, Shape}
use Rattle.tree.specs.declared.Tree.{Tree}
use Rattle.bits.proofs.Totals.{totals_change}
use Rattle.tree.proofs.Facts.{named1, inner1, within1, apart1}

-- one entry of group i's block is written, with the block's mask
module _ (s s' : Tree) (i j m v : ℕ) (h : Shape s) (lj : j < 64) (p : 0 < slot1 s i) (es : s'.level0.slots ≡ s.level0.slots) (wr : Wrote s.level1 s'.level1 (slot1 s i) (record { mask = m; slots = set (node s i).slots j v })) where
  pub entry_node : node s' i ≡ record { mask = m; slots = set (node s i).slots j v }
  entry_node = rw (wr.written, es, get_or-set_same, within1 s h i)

  pub entry_other : (a : ℕ) → a ≢ i → node s' a ≡ node s a
  entry_other a ne = rw (wr.written, es, get_or-set_other, apart1 s h a i ne p)

  pub entry_here : slot2 s' i j ≡ v
  entry_here = rw entry_node (get_or-set_same (node s i).slots j v 0 (omega (arith, h.wide i)))

  pub entry_there : (a b : ℕ) → ((a ≡ i) × (b ≡ j) → ⊥) → slot2 s' a b ≡ slot2 s a b
  entry_there a b ne = grind (arith, entry_node, entry_other a, get_or-set_other (node s i).slots j b v 0)

  pub entry_count : (k : ℕ) → count2 s' k + same k (slot2 s i j) ≡ count2 s k + same k v
  entry_count k = omega (arith, entry_here, totals_change (λ a b. same k (slot2 s a b)) (λ a b. same k (slot2 s' a b)) 64 64 i j (inner1 s h i p) lj (λ a b ne. rw (entry_there a b ne)))

  -- the shape is kept where the slots and the mask agree on the entry
  pub entry_shape : s'.level0.mask ≡ s.level0.mask → m < 2 ^ 64 → ((b : ℕ) → b < 64 → bit m b ≡ some (slot2 s' i b)) → ((k : ℕ) → 0 < k → count2 s' k ≤ 1) → Holds data_kind s'.«data» (held_by (count2 s')) → s'.«data».fresh ≤ 4097 → ((a b : ℕ) → word s' a b < 2 ^ 64) → Shape s'
  entry_shape em fm eb once2 holds2 few2 fits2 = record {
    long = rw es h.long;
    wide = λ a. grind (arith, entry_node, entry_other a, h.wide i, h.wide a, length-set (node s i).slots j v);
    once1 = rw es h.once1;
    once2 = once2;
    holds1 = simp (wr.written, wr.same_root, wr.same_count, wr.same_fresh) (sound_same _ _ _ _ _ _ _ (λ k. rw es) (sound_write _ _ _ _ _ _ _ _ (named1 s h i p) h.holds1));
    holds2 = holds2;
    few1 = omega (arith, wr.same_fresh, h.few1);
    few2 = few2;
    fits1 = λ a. grind (arith, entry_node, entry_other a, h.fits1 a);
    fits2 = fits2;
    top = rw (em, es) h.top;
    middle = λ a b l. grind (arith, entry_node, entry_other a, h.middle a b l, eb b l);
  }
