use Rattle.std.proofs.Common.{refl}
use Rattle.pool.proofs.Chains.{started}
use Rattle.pool.proofs.level.Level.new.Goals as goal

pub returns : goal.returns
returns g c = record { written = c.write_empty_block.ensures; fresh = record { first = refl; none = started _ _ _ c.requires c.write_empty_block.ensures }; lent = refl }
