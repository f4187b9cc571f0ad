use Rattle.std.proofs.Common.{refl}
use Rattle.pool.proofs.Nodes.{clean_node}
use Rattle.tree.specs.Trees.{held_by, count1, node}
use Rattle.tree.proofs.Facts.{named1}
use Rattle.tree.proofs.Clear.{shrink, bare}
use Rattle.tree.proofs.Tree.drop_group.Goals as goal

pub remove_empty_block-requires-clause-taken : goal.remove_empty_block-requires-clause-taken
remove_empty_block-requires-clause-taken c = (held_by (count1 c.args.self.now), (c.requires.shape.holds1, named1 c.args.self.now c.requires.shape c.args.i c.requires.has))

pub remove_empty_block-requires-clause-clean : goal.remove_empty_block-requires-clause-clean
remove_empty_block-requires-clause-clean c = clean_node (node c.args.self.now c.args.i) (c.requires.shape.wide c.args.i) (bare c.args.self.now c.requires.shape c.args.i c.requires.bare)

pub returns-clause-shrunk : goal.returns-clause-shrunk
returns-clause-shrunk c =
    let s = c.args.self.now in
    let h = c.requires.shape in
    shrink s _ c.args.i h c.requires.place c.requires.has c.requires.bare refl refl (λ a l. c.clear_bit-self.ensures a) (c.remove_empty_block.ensures.given (held_by (count1 s)) h.holds1 (named1 s h c.args.i c.requires.has))
