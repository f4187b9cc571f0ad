use Rattle.std.proofs.Common.{rules}
use Rattle.acts.proofs.Handed.{blocks_taken}
use Rattle.acts.proofs.block_walk.BlockIterWalkDataBlock.step.Goals as goal

pub returns : goal.returns
returns g c = search (rules, blocks_taken)
