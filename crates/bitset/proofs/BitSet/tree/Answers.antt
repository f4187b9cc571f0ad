use Rattle.bitset.proofs.Kept.{sound_of}
use Rattle.bitset.proofs.BitSet.tree.Goals as goal

pub returns-clause-sound : goal.returns-clause-sound
returns-clause-sound c = sound_of c.args.self.now
