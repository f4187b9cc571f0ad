use Rattle.std.proofs.Common.{arith}
use Rattle.custom.specs.Laws.{band_ruled}
use Rattle.custom.proofs.BandLevelMasks.rules.Goals as goal

pub returns : goal.returns
returns c = band_ruled c.args.self.now.group c.args.self.now.word (omega (arith, c.cells.type_inv, c.cells.ensures))
