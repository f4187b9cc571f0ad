use Rattle.std.proofs.Common.{refl, arith, rules}
use lib.Bits.{bit_or, or_lt}
use Rattle.tree.proofs.Facts.{within2}
use Rattle.tree.proofs.Whole.{changed, or_some}
use Rattle.tree.proofs.Tree.join_block.Goals as goal

pub at-here-requires : goal.at-here-requires
at-here-requires c = omega (arith, c.slot-c.ensures, within2 c.args.self.now c.requires.sound.0 c.args.i c.args.j)

pub put-requires : goal.put-requires
put-requires c = omega (arith, c.slot-c.ensures, within2 c.args.self.now c.requires.sound.0 c.args.i c.args.j)

pub returns-clause-put : goal.returns-clause-put
returns-clause-put c = changed c.args.self.now _ (λ x. bit_or x c.args.w) c.args.i c.args.j c.slot-c.result c.at-here.result.now c.requires.sound c.requires.place.1 c.slot-c.ensures (omega arith) c.at-here.ensures (or_some _ _ c.requires.some) (λ l. or_lt 64 _ _ l (search rules)) refl refl c.put.ensures.wrote
