use Rattle.std.proofs.Common.{rules}
use Rattle.acts.proofs.Handed.{blocks_onward}
use Rattle.acts.proofs.block_walk.BlockIterWalkDataBlock.seek.Goals as goal

pub returns : goal.returns
returns g c = search (rules, blocks_onward)
