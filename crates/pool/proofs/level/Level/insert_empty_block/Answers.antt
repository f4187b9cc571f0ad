use Rattle.std.proofs.Common.{refl, arith}
use Rattle.pool.proofs.Chains.{take_pop, take_fresh, take_none}
use Rattle.pool.proofs.level.Level.insert_empty_block.Goals as goal

pub pop_empty_block-self-requires : goal.pop_empty_block-self-requires
pop_empty_block-self-requires g c = (take_pop _ _ _ _ _ _ c.requires.0 _ c.requires.1 c.if-self.true refl refl).within

pub returns-then-self-clause-taken : goal.returns-then-self-clause-taken
returns-then-self-clause-taken g c = λ held t. take_pop _ _ _ _ _ _ held _ t c.if-self.true (c.pop_empty_block-self.ensures.cleared g.B.IBlock.kind.blank) (c.pop_empty_block-self.ensures.next g.B.IBlock.kind.blank)

pub returns-then-self-clause-good : goal.returns-then-self-clause-good
returns-then-self-clause-good g c = (_, (take_pop _ _ _ _ _ _ c.requires.0 _ c.requires.1 c.if-self.true (c.pop_empty_block-self.ensures.cleared g.B.IBlock.kind.blank) (c.pop_empty_block-self.ensures.next g.B.IBlock.kind.blank)).sound)

pub returns-then-self-2-clause-taken : goal.returns-then-self-2-clause-taken
returns-then-self-2-clause-taken g c = λ held t. take_fresh _ _ _ _ _ _ held t c.if-self.false (omega arith) c.if-self-2.true c.write_empty_block.ensures

pub returns-then-self-2-clause-good : goal.returns-then-self-2-clause-good
returns-then-self-2-clause-good g c = (_, (take_fresh _ _ _ _ _ _ c.requires.0 c.requires.1 c.if-self.false (omega arith) c.if-self-2.true c.write_empty_block.ensures).sound)

pub returns-clause-taken : goal.returns-clause-taken
returns-clause-taken g c = λ held t. take_none _ _ _ _ _ held t c.if-self.false (omega arith) c.if-self-2.false
