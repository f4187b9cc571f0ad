-- A group is given a slot.
use Rattle.std.proofs.Common.{◌≡◌, ℕ, ◌+◌, ◌<◌, ◌≤◌, max, ◌≢◌, length, set, arith, length-set, get_or-set_other, get_or-set_same}
use Rattle.std.proofs.lemmas.Bool.Decides.{nat_tests}
use Rattle.bits.specs.Bit.{bit}
use Rattle.pool.specs.Pool.{Got}
use Rattle.pool.specs.Kinds.{level1_kind}
use Rattle.pool.specs.Levels.{Holds}
use Rattle.pool.proofs.Chains.{sound_same}
use Rattle.bits.specs.Sums.{some, same}
use Rattle.tree.specs.Trees.{slot1, node, word, count1, held_by, Shape}
use Rattle.tree.specs.Steps.{Grown}
use Rattle.tree.specs.declared.Tree.{Tree}
use Rattle.bits.proofs.Totals.{total_change, total_most}
use Rattle.tree.proofs.Held.{held_more}
use Rattle.tree.proofs.Facts.{node0, named1, tally1}

-- where each group's block and the words are as they were
module _ (s s' : Tree) (e : (a : ℕ) → node s' a ≡ node s a) (ec : s'.«data» ≡ s.«data») where
  pub nodes_words : (a b : ℕ) → word s' a b ≡ word s a b
  nodes_words a b = rw (e a, ec)

  pub nodes_shape : Shape s → length s'.level0.slots ≡ 64 → ((k : ℕ) → 0 < k → count1 s' k ≤ 1) → Holds level1_kind s'.level1 (held_by (count1 s')) → s'.level1.fresh ≤ 65 → ((a : ℕ) → a < 64 → bit s'.level0.mask a ≡ some (slot1 s' a)) → Shape s'
  nodes_shape h long once1 holds1 few1 top = record {
    long = long;
    wide = simp e h.wide;
    once1 = once1;
    once2 = simp e h.once2;
    holds1 = holds1;
    holds2 = rw ec (sound_same _ _ _ _ _ _ _ (λ k. simp e) h.holds2);
    few1 = few1;
    few2 = rw ec h.few2;
    fits1 = simp e h.fits1;
    fits2 = simp (e, ec) h.fits2;
    top = top;
    middle = simp e h.middle;
  }

module _ (s s' : Tree) (i v : ℕ) (h : Shape s) (li : i < 64) (z : slot1 s i ≡ 0) (es : s'.level0.slots ≡ set s.level0.slots i v) (ec : s'.«data» ≡ s.«data») (em : (a : ℕ) → a < 64 → bit s'.level0.mask a ≡ max (bit s.level0.mask a) (same a i)) (got : Got level1_kind s.level1.blocks.now s.level1.fresh s'.level1.blocks.now s'.level1.root_empty_block s'.level1.empty_blocks_count s'.level1.fresh (held_by (count1 s)) v) where
  pub grow_here : slot1 s' i ≡ v
  grow_here = rw es (get_or-set_same s.level0.slots i v 0 (omega (arith, h.long)))

  pub grow_there : (a : ℕ) → a ≢ i → slot1 s' a ≡ slot1 s a
  grow_there a ne = rw es (get_or-set_other s.level0.slots i a v 0 ne)

  pub grow_node : (a : ℕ) → node s' a ≡ node s a
  grow_node a = rw got.written (grind (arith, grow_here, grow_there a, node0 s h a, z, named1 s h a, got.was_free, got.above, get_or-set_same s.level1.blocks.now v level1_kind.blank level1_kind.blank got.within, get_or-set_other s.level1.blocks.now v (slot1 s a) level1_kind.blank level1_kind.blank))

  pub grow_count : (k : ℕ) → 0 < k → count1 s' k ≡ count1 s k + same k v
  grow_count k p = omega (arith, grow_here, z, total_change (λ a. same k (slot1 s a)) (λ a. same k (slot1 s' a)) 64 i li (λ a ne. rw (grow_there a ne)))

  pub grow : Grown s s' i
  grow = record {
    shape =
        nodes_shape s s' grow_node ec h
        (rw (es, length-set) h.long)
        (λ k p. grind (arith, nat_tests, grow_count k p, got.above, got.was_free, h.once1 k p))
        (sound_same _ _ _ _ _ _ _ (held_more (count1 s) (count1 s') v got.above grow_count) got.sound)
        (omega (arith, got.reach, h.few1, tally1 s h, z, grow_here, got.above, total_change (λ a. some (slot1 s a)) (λ a. some (slot1 s' a)) 64 i li (λ a ne. rw (grow_there a ne)), total_most (λ a. some (slot1 s' a)) 64 1 (λ a l. omega arith)))
        (λ a l. grind (arith, em a l, h.top a l, z, grow_here, grow_there a, got.above));
    has = rw grow_here got.above;
    others = grow_there;
    nodes = grow_node;
    data_same = ec;
    room1 = rw (got.written, length-set);
  }
