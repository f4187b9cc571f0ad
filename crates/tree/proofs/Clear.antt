-- A block gives its slot back, and a group.
use Rattle.std.proofs.Common.{◌≡◌, ℕ, ◌+◌, ◌-◌, ◌^◌, ◌<◌, ◌≢◌, set, ap, ◌∙◌, arith, length-set, get_or-set_other, get_or-set_same}
use Rattle.bits.specs.Bit.{bit}
use Rattle.bits.proofs.Laws.{bit_of_zero}
use Rattle.pool.specs.Levels.{Wrote}
use Rattle.pool.specs.Pool.{Gave}
use Rattle.pool.specs.Kinds.{level1_kind, data_kind}
use Rattle.pool.proofs.Nodes.{clean_node}
use Rattle.pool.proofs.Chains.{sound_same}
use Rattle.pool.proofs.Writes.{wrote_length}
use Rattle.bits.specs.Sums.{same}
use Rattle.tree.specs.Trees.{slot1, node, slot2, word, count1, count2, held_by, Shape}
use Rattle.tree.specs.Steps.{Cleared, Shrunk}
use Rattle.tree.specs.declared.Tree.{Tree}
use Rattle.bits.proofs.Totals.{total_change}
use Rattle.tree.proofs.Held.{held_less}
use Rattle.tree.proofs.Facts.{slot0, apart1, apart2}
use Rattle.tree.proofs.Grow.{nodes_shape}
use Rattle.tree.proofs.Entry.{entry_here, entry_there, entry_count, entry_shape}

-- a block with a slot lies in a group with a slot
pub under : (s : Tree) → Shape s → (i j : ℕ) → 0 < slot2 s i j → 0 < slot1 s i
under s h i j q = grind (arith, slot0 s h i j)

-- block (i, j) gives its slot back
module _ (s s' : Tree) (i j m : ℕ) (fm : m < 2 ^ 64) (h : Shape s) (lj : j < 64) (q : 0 < slot2 s i j) (es : s'.level0.slots ≡ s.level0.slots) (e0 : s'.level0.mask ≡ s.level0.mask) (em : (a : ℕ) → a < 64 → bit m a ≡ bit (node s i).mask a - same a j) (gave : Gave data_kind s.«data».blocks.now s.«data».root_empty_block s.«data».empty_blocks_count s.«data».fresh s'.«data».blocks.now s'.«data».root_empty_block s'.«data».empty_blocks_count s'.«data».fresh (held_by (count2 s)) (slot2 s i j)) (wr : Wrote s.level1 s'.level1 (slot1 s i) (record { mask = m; slots = set (node s i).slots j 0 })) where
  pub clear_here : slot2 s' i j ≡ 0
  clear_here = entry_here s s' i j m 0 h lj (under s h i j q) es wr

  pub clear_there : (a b : ℕ) → ((a ≡ i) × (b ≡ j) → ⊥) → slot2 s' a b ≡ slot2 s a b
  clear_there = entry_there s s' i j m 0 h lj (under s h i j q) es wr

  pub clear_count : (k : ℕ) → 0 < k → count2 s' k + same k (slot2 s i j) ≡ count2 s k
  clear_count k r = omega (arith, entry_count s s' i j m 0 h lj (under s h i j q) es wr k)

  pub clear_words : (a b : ℕ) → ((a ≡ i) × (b ≡ j) → ⊥) → word s' a b ≡ word s a b
  clear_words a b ne = rw (gave.written, clear_there a b ne, get_or-set_other, apart2 s h a b i j ne q)

  pub clear_word : word s' i j ≡ 0
  clear_word = rw clear_here gave.sound.1.nought

  pub clear : Cleared s s' i j
  clear = record {
    shape =
        entry_shape s s' i j m 0 h lj (under s h i j q) es wr e0 fm
        (λ b l. grind (arith, em b l, h.middle i b l, clear_here, clear_there i b))
        (λ k r. omega (arith, clear_count k r, h.once2 k r))
        (sound_same _ _ _ _ _ _ _ (held_less (count2 s) (count2 s') (slot2 s i j) q (h.once2 (slot2 s i j) q) clear_count) gave.sound)
        (omega (arith, gave.same_fresh, h.few2))
        (λ a b. grind (arith, clear_word, clear_words a b, h.fits2 a b));
    slots = es;
    gone = clear_here;
    others = clear_there;
    words = clear_words;
    room1 = wrote_length s.level1 s'.level1 _ _ wr;
    room2 = rw (gave.written, length-set);
  }

-- a group whose mask is 0 names no block
pub bare : (s : Tree) → Shape s → (i : ℕ) → (node s i).mask ≡ 0 → (j : ℕ) → j < 64 → slot2 s i j ≡ 0
bare s h i z j l = grind (arith, h.middle i j l, bit_of_zero j)

pub bare_node : (s : Tree) → Shape s → (i : ℕ) → (node s i).mask ≡ 0 → node s i ≡ level1_kind.blank
bare_node s h i z = ap (λ m. record { mask = m; slots = (node s i).slots }) z ∙ clean_node (node s i) (h.wide i) (bare s h i z)

-- group i, whose block is empty, gives its slot back
module _ (s s' : Tree) (i : ℕ) (h : Shape s) (li : i < 64) (p : 0 < slot1 s i) (z : (node s i).mask ≡ 0) (es : s'.level0.slots ≡ set s.level0.slots i 0) (ec : s'.«data» ≡ s.«data») (em : (a : ℕ) → a < 64 → bit s'.level0.mask a ≡ bit s.level0.mask a - same a i) (gave : Gave level1_kind s.level1.blocks.now s.level1.root_empty_block s.level1.empty_blocks_count s.level1.fresh s'.level1.blocks.now s'.level1.root_empty_block s'.level1.empty_blocks_count s'.level1.fresh (held_by (count1 s)) (slot1 s i)) where
  pub shrink_here : slot1 s' i ≡ 0
  shrink_here = rw es (get_or-set_same s.level0.slots i 0 0 (omega (arith, h.long)))

  pub shrink_there : (a : ℕ) → a ≢ i → slot1 s' a ≡ slot1 s a
  shrink_there a ne = rw es (get_or-set_other s.level0.slots i a 0 0 ne)

  pub shrink_node : (a : ℕ) → node s' a ≡ node s a
  shrink_node a = grind (arith, shrink_here, gave.sound.1.nought, bare_node s h i z, gave.written, shrink_there a, apart1 s h a i, get_or-set_other s.level1.blocks.now (slot1 s i) (slot1 s a) (level1_kind.relink (node s i) s.level1.root_empty_block) level1_kind.blank)

  pub shrink_count : (k : ℕ) → 0 < k → count1 s' k + same k (slot1 s i) ≡ count1 s k
  shrink_count k r = omega (arith, shrink_here, total_change (λ a. same k (slot1 s a)) (λ a. same k (slot1 s' a)) 64 i li (λ a ne. rw (shrink_there a ne)))

  pub shrink : Shrunk s s' i
  shrink = record {
    shape =
        nodes_shape s s' shrink_node ec h
        (rw (es, length-set) h.long)
        (λ k r. omega (arith, shrink_count k r, h.once1 k r))
        (sound_same _ _ _ _ _ _ _ (held_less (count1 s) (count1 s') (slot1 s i) p (h.once1 (slot1 s i) p) shrink_count) gave.sound)
        (omega (arith, gave.same_fresh, h.few1))
        (λ a l. grind (arith, em a l, h.top a l, shrink_here, shrink_there a));
    gone = shrink_here;
    others = shrink_there;
    nodes = shrink_node;
    data_same = ec;
    room1 = rw (gave.written, length-set);
  }
