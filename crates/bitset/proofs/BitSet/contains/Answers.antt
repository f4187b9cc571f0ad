use Rattle.bitset.proofs.Kept.{sound_of}
use Rattle.bitset.proofs.BitSet.contains.Goals as goal

pub data_word-requires-clause-shape : goal.data_word-requires-clause-shape
data_word-requires-clause-shape c = (sound_of c.args.self.now).0
