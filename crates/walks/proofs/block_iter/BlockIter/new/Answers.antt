use Rattle.walks.proofs.Moves.{pending_start}
use Rattle.walks.proofs.block_iter.BlockIter.new.Goals as goal

pub returns-clause-starts : goal.returns-clause-starts
returns-clause-starts g c = rw (← c.level0_mask-top.ensures) (pending_start _ _)
