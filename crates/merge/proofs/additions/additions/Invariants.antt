use Rattle.std.proofs.Common.{◌≡◌, ◌+◌}
use Rattle.bits.specs.Sums.{total}
use Rattle.tree.specs.Trees.{word, group_count, block_count}
use Rattle.merge.specs.Merged.{united, groups_in, blocks_in}
use Rattle.merge.proofs.Queue.{left_of}
use Rattle.merge.proofs.Counted.{adds_group, adds_blocks}
use Rattle.merge.proofs.additions.additions.Given as goal

-- what was counted, what the groups that are left add, and what the tree has, is what the union has
abbrev pub invariant-loop-i : goal.invariant-loop-i
invariant-loop-i g l =
    let x = g.X.LevelMasks.word l.x in
    (l.groups + total (left_of l.i-iterator.word (adds_group l.tree x)) 64 + group_count l.tree ≡ groups_in (united (word l.tree) x))
    × (l.blocks + total (left_of l.i-iterator.word (adds_blocks l.tree x)) 64 + block_count l.tree ≡ blocks_in (united (word l.tree) x))
