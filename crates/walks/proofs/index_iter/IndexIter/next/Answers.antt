use Rattle.std.proofs.Common.{arith}
use Rattle.walks.proofs.Steps.{took_block, rem_word, rem_none}
use Rattle.walks.proofs.index_iter.IndexIter.next.Goals as goal

pub loop-k-preserved : goal.loop-k-preserved
loop-k-preserved g c = grind (arith, took_block g.T.LevelMasks.middle g.T.LevelMasks.word)

pub returns-in_err-block-clause-taken : goal.returns-in_err-block-clause-taken
returns-in_err-block-clause-taken g c = grind (arith, rem_none)

pub returns-clause-taken : goal.returns-clause-taken
returns-clause-taken g c = grind (arith, rem_word)
