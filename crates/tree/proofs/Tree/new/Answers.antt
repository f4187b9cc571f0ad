use Rattle.std.proofs.Common.{replicate, refl}
use Rattle.tree.proofs.Start.{new_sound, new_word}
use Rattle.tree.proofs.Tree.new.Goals as goal

pub returns-clause-sound : goal.returns-clause-sound
returns-clause-sound c = new_sound _ refl refl c.requires.level1.first c.requires.words.first c.requires.level1.none c.requires.words.none

pub returns-clause-empty : goal.returns-clause-empty
returns-clause-empty c = new_word (record { level0 = record { mask = 0; slots = replicate 64 0 }; level1 = c.args.level1; «data» = c.args.data }) refl refl c.requires.level1.first c.requires.words.first c.requires.level1.none c.requires.words.none
