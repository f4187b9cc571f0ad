use Rattle.bitset.proofs.Kept.{sound_of}
use Rattle.bitset.proofs.BitSet.stands.Goals as goal

pub stands-requires : goal.stands-requires
stands-requires c = record { sound = sound_of c.args.self.now }
