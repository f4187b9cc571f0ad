use Rattle.std.proofs.Common.{rules}
use Rattle.acts.proofs.Filled.{whole_filled}
use Rattle.acts.proofs.blocks_of.Goals as goal

pub returns : goal.returns
returns g c = search (rules, whole_filled)
