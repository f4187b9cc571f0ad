-- Whether there is room for a block: the answer from the counts, and the counts from the answer.
use Rattle.std.proofs.Common.{◌≡◌, ℕ, ◌+◌, ◌<◌, ◌≤◌, false, length, arith}
use Rattle.std.proofs.lemmas.Bool.Decides.{nat_tests}
use Rattle.roll.specs.Roll.{Done, refuses}
use Rattle.tree.specs.Trees.{slots1, slots2, slot1, slot2, used1, used2, Sound}
use Rattle.tree.specs.Steps.{Grown, groups_with, blocks_with, room}
use Rattle.tree.specs.declared.Tree.{Tree}
use Rattle.tree.proofs.Facts.{tally1, tally2}
use Rattle.tree.proofs.Whole.{used_groups, used_blocks}

module _ (s : Tree) (t : Sound s) where
  -- what is there fits
  pub has_group : (i : ℕ) → 0 < slot1 s i → groups_with s i ≤ slots1 s
  has_group i p = omega (arith, t.1.groups_full i, tally1 s t.0, used_groups s t.1, t.0.holds1.1.tallied, t.0.holds1.1.room)

  pub has_block : (i j : ℕ) → 0 < slot2 s i j → blocks_with s i j ≤ slots2 s
  has_block i j p = omega (arith, t.1.words_full i j, tally2 s t.0, used_blocks s t.1, t.0.holds2.1.tallied, t.0.holds2.1.room)

  pub room_done : (i j : ℕ) → groups_with s i ≤ slots1 s → blocks_with s i j ≤ slots2 s → room s i j ≡ Done
  room_done i j g b = grind (arith, nat_tests)

  -- an answer that does not refuse gives room for a group and for a block
  pub room_group : (i j : ℕ) → refuses (room s i j) ≡ false → slot1 s i ≡ 0 → used1 s + 1 < length s.level1.blocks.now
  room_group i j e z = grind (arith, nat_tests, t.0.holds1.1.begun, t.0.holds1.1.room, used_groups s t.1, t.1.groups_full i)

  pub room_block : (s' : Tree) (i j : ℕ) → Grown s s' i → slot2 s i j ≡ 0 → refuses (room s i j) ≡ false → used2 s' + 1 < length s'.«data».blocks.now
  room_block s' i j g z e = simp (g.nodes, g.data_same) (grind (arith, nat_tests, t.0.holds2.1.begun, t.0.holds2.1.room, used_blocks s t.1, t.1.words_full i j))
