use Rattle.std.proofs.Common.{refl, arith, rules}
use lib.Bits.{bit_or, or_lt}
use Rattle.std.proofs.lemmas.Bool.Decides.{nat_tests}
use Rattle.tree.proofs.Facts.{within2}
use Rattle.tree.proofs.Clear.{under}
use Rattle.tree.proofs.Whole.{changed, or_some}
use Rattle.tree.proofs.Room.{has_group, has_block}
use Rattle.tree.proofs.Tree.or_block.Goals as goal

pub at-requires : goal.at-requires
at-requires c = omega (arith, c.slot-c.ensures, within2 c.args.self.now c.requires.sound.0 c.args.i c.args.j)

pub put-requires : goal.put-requires
put-requires c = omega (arith, c.slot-c.ensures, within2 c.args.self.now c.requires.sound.0 c.args.i c.args.j)

pub returns-then-c-ne0-clause-answer : goal.returns-then-c-ne0-clause-answer
returns-then-c-ne0-clause-answer c = grind (arith, nat_tests, c.slot-c.ensures, under c.args.self.now c.requires.sound.0 c.args.i c.args.j, has_group c.args.self.now c.requires.sound c.args.i, has_block c.args.self.now c.requires.sound c.args.i c.args.j)

pub returns-then-c-ne0-clause-put : goal.returns-then-c-ne0-clause-put
returns-then-c-ne0-clause-put c = λ _. changed c.args.self.now _ (λ x. bit_or x c.args.w) c.args.i c.args.j c.slot-c.result c.at.result.now c.requires.sound c.requires.place.1 c.slot-c.ensures (omega arith) c.at.ensures (or_some _ _ c.requires.some) (λ l. or_lt 64 _ _ l (search rules)) refl refl c.put.ensures.wrote
