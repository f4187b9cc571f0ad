-- A block is given a slot; a word is stored.
use Rattle.std.proofs.Common.{◌≡◌, ℕ, ◌+◌, ◌^◌, ◌<◌, max, set, arith, length-set, get_or-set_other, get_or-set_same}
use Rattle.std.proofs.lemmas.Bool.Decides.{nat_tests}
use Rattle.bits.specs.Bit.{bit}
use Rattle.pool.specs.Levels.{Wrote}
use Rattle.pool.specs.Pool.{Got}
use Rattle.pool.specs.Kinds.{data_kind}
use Rattle.pool.proofs.Chains.{sound_same, sound_write}
use Rattle.pool.proofs.Writes.{wrote_length}
use Rattle.bits.specs.Sums.{total, some, same}
use Rattle.tree.specs.Trees.{slot1, node, slot2, word, count2, held_by, Shape}
use Rattle.tree.specs.Steps.{Filled, Stored}
use Rattle.tree.specs.declared.Tree.{Tree}
use Rattle.bits.proofs.Totals.{total_most, totals_change}
use Rattle.tree.proofs.Held.{held_more}
use Rattle.tree.proofs.Facts.{inner1, word0, named2, tally2, within2, apart2}
use Rattle.tree.proofs.Entry.{entry_here, entry_there, entry_count, entry_shape}

-- block (i, j) had no slot and is given slot v
module _ (s s' : Tree) (i j m v : ℕ) (fm : m < 2 ^ 64) (h : Shape s) (lj : j < 64) (p : 0 < slot1 s i) (z : slot2 s i j ≡ 0) (es : s'.level0.slots ≡ s.level0.slots) (e0 : s'.level0.mask ≡ s.level0.mask) (em : (a : ℕ) → a < 64 → bit m a ≡ max (bit (node s i).mask a) (same a j)) (got : Got data_kind s.«data».blocks.now s.«data».fresh s'.«data».blocks.now s'.«data».root_empty_block s'.«data».empty_blocks_count s'.«data».fresh (held_by (count2 s)) v) (wr : Wrote s.level1 s'.level1 (slot1 s i) (record { mask = m; slots = set (node s i).slots j v })) where
  pub fill_here : slot2 s' i j ≡ v
  fill_here = entry_here s s' i j m v h lj p es wr

  pub fill_there : (a b : ℕ) → ((a ≡ i) × (b ≡ j) → ⊥) → slot2 s' a b ≡ slot2 s a b
  fill_there = entry_there s s' i j m v h lj p es wr

  pub fill_word : (a b : ℕ) → word s' a b ≡ word s a b
  fill_word a b = rw got.written (grind (arith, fill_here, fill_there a b, word0 s h a b, z, named2 s h a b, got.was_free, got.above, get_or-set_same s.«data».blocks.now v 0 0 got.within, get_or-set_other s.«data».blocks.now v (slot2 s' a b) 0 0))

  pub fill_count : (k : ℕ) → 0 < k → count2 s' k ≡ count2 s k + same k v
  fill_count k q = omega (arith, z, entry_count s s' i j m v h lj p es wr k)

  pub fill : Filled s s' i j × (slot2 s' i j ≡ v)
  fill = (
    record {
      shape =
          entry_shape s s' i j m v h lj p es wr e0 fm
          (λ b l. grind (arith, em b l, h.middle i b l, z, fill_here, fill_there i b, got.above))
          (λ k q. grind (arith, nat_tests, fill_count k q, got.above, got.was_free, h.once2 k q))
          (sound_same _ _ _ _ _ _ _ (held_more (count2 s) (count2 s') v got.above fill_count) got.sound)
          (omega (arith, got.reach, got.above, z, h.few2, tally2 s h, fill_here, totals_change (λ a b. some (slot2 s a b)) (λ a b. some (slot2 s' a b)) 64 64 i j (inner1 s h i p) lj (λ a b ne. rw (fill_there a b ne)), total_most (λ a. total (λ b. some (slot2 s' a b)) 64) 64 64 (λ a l. omega (arith, total_most (λ b. some (slot2 s' a b)) 64 1 (λ b r. omega arith)))))
          (λ a b. rw (fill_word a b) (h.fits2 a b));
      has = rw fill_here got.above;
      slots = es;
      others = fill_there;
      words = fill_word;
      room1 = wrote_length s.level1 s'.level1 _ _ wr;
      room2 = rw (got.written, length-set);
    },
    fill_here,
  )

-- word (i, j), which has a slot, is written
pub store : (s s' : Tree) (i j v : ℕ) → v < 2 ^ 64 → Shape s → 0 < slot2 s i j → s'.level0.slots ≡ s.level0.slots → s'.level0.mask ≡ s.level0.mask → s'.level1 ≡ s.level1 → Wrote s.«data» s'.«data» (slot2 s i j) v → Stored s s' i j v
store s s' i j v fv h p es e0 e1 wr =
    let here : word s' i j ≡ v = rw (wr.written, es, e1, get_or-set_same, within2 s h i j) in
    let others : (a b : ℕ) → ((a ≡ i) × (b ≡ j) → ⊥) → word s' a b ≡ word s a b = λ a b ne. rw (wr.written, es, e1, get_or-set_other, apart2 s h a b i j ne p) in
    record {
      shape = record {
        long = rw es h.long;
        wide = simp (es, e1) h.wide;
        once1 = simp es h.once1;
        once2 = simp (es, e1) h.once2;
        holds1 = simp e1 (sound_same _ _ _ _ _ _ _ (λ k. rw es) h.holds1);
        holds2 = simp (wr.written, wr.same_root, wr.same_count, wr.same_fresh) (sound_same _ _ _ _ _ _ _ (λ k. simp (es, e1)) (sound_write _ _ _ _ _ _ _ _ (named2 s h i j p) h.holds2));
        few1 = simp e1 h.few1;
        few2 = omega (arith, wr.same_fresh, h.few2);
        fits1 = simp (es, e1) h.fits1;
        fits2 = λ a b. grind (arith, here, others a b, h.fits2 a b);
        top = simp (es, e0) h.top;
        middle = simp (es, e1) h.middle;
      };
      slots = es;
      nodes = λ a. simp (es, e1);
      here = here;
      others = others;
      room1 = rw e1;
      room2 = wrote_length s.«data» s'.«data» _ _ wr;
    }
