use Rattle.roll.proofs.Counts.{groups_words, blocks_words}
use Rattle.tree.specs.Trees.{word}
use Rattle.bitset.proofs.Kept.{sound_of}
use Rattle.bitset.proofs.BitSet.used.Goals as goal

pub returns : goal.returns
returns c =
    let f = (sound_of c.args.self.now).0.fits2 in
    cc (groups_words (word c.args.self.now.tree) f, blocks_words (word c.args.self.now.tree) f)

pub used-requires : goal.used-requires
used-requires c = sound_of c.args.self.now
