use Rattle.std.proofs.Common.{refl, arith, rules}
use lib.Bits.{bit_and}
use Rattle.tree.proofs.Facts.{within2}
use Rattle.tree.proofs.Whole.{changed}
use Rattle.tree.proofs.Tree.and_block.Goals as goal

pub at-old-requires : goal.at-old-requires
at-old-requires c = omega (arith, c.slot-c.ensures, within2 c.args.self.now c.requires.sound.0 c.args.i c.args.j)

pub put-requires : goal.put-requires
put-requires c = omega (arith, c.slot-c.ensures, within2 c.args.self.now c.requires.sound.0 c.args.i c.args.j)

pub returns-then-v-ne0-clause-put : goal.returns-then-v-ne0-clause-put
returns-then-v-ne0-clause-put c = changed c.args.self.now _ (λ x. bit_and x c.args.w) c.args.i c.args.j c.slot-c.result c.at-old.result.now c.requires.sound c.requires.place.1 c.slot-c.ensures (omega arith) c.at-old.ensures (omega arith) (λ _. search rules) refl refl c.put.ensures.wrote
