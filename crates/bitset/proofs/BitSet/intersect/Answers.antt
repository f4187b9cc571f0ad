use Rattle.bitset.proofs.Words.{cuts}
use Rattle.bitset.proofs.Kept.{sound_of}
use Rattle.bitset.proofs.BitSet.intersect.Goals as goal

pub returns-clause-roll : goal.returns-clause-roll
returns-clause-roll g c = cuts c.args.self.now.tree c.intersect.new.tree (g.X.LevelMasks.word c.args.x.now) c.intersect.ensures.words

pub intersect-requires : goal.intersect-requires
intersect-requires g c = sound_of c.args.self.now
