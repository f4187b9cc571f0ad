use Rattle.roll.specs.Answers.{outcome}
use Rattle.bitset.proofs.Words.{unites}
use Rattle.bitset.proofs.Kept.{sound_of, same_set, still_sound}
use Rattle.bitset.proofs.BitSet.unite.Goals as goal

pub returns : goal.returns
returns g c =
    let u = c.unite.ensures in
    let r = unites c.args.self.now.tree c.unite.new.tree (g.X.LevelMasks.word c.args.x.now) (outcome c.unite.result) (sound_of c.args.self.now) c.rules.ensures.word_fits u.answer u.words u.kept in
    record { answer = r.says; roll = r.leaves; kept = λ e. same_set _ _ (u.kept e); lent = u.lent }

pub unite-requires : goal.unite-requires
unite-requires g c = sound_of c.args.self.now

pub invariant_of-self : goal.invariant_of-self
invariant_of-self g c =
    record { sound = still_sound c.args.self.now.tree c.unite.new.tree (outcome c.unite.result) (sound_of c.args.self.now) (λ e. (c.unite.ensures.words e).sound) c.unite.ensures.kept }
