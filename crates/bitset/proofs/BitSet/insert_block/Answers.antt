use Rattle.std.proofs.Common.{◌≡◌, ◌%◌, ◌<◌, arith, rules}
use Rattle.std.proofs.lemmas.Bool.Decides.{nat_tests}
use Rattle.roll.specs.Roll.{InsertBlock}
use Rattle.roll.specs.Answers.{outcome}
use Rattle.tree.specs.Trees.{word}
use Rattle.bitset.proofs.Digits.{block_added}
use Rattle.bitset.proofs.Calls.{gained, zero_word}
use Rattle.bitset.proofs.Kept.{sound_of, same_set, still_sound}
use Rattle.bitset.proofs.BitSet.insert_block.Goals as goal

pub returns-then-word-eq0-clause-answer : goal.returns-then-word-eq0-clause-answer
returns-then-word-eq0-clause-answer c = (zero_word c.args.self.now.tree c.args.start c.args.word c.if-word-eq0.true).says

pub returns-then-word-eq0-clause-roll : goal.returns-then-word-eq0-clause-roll
returns-then-word-eq0-clause-roll c = (zero_word c.args.self.now.tree c.args.start c.args.word c.if-word-eq0.true).leaves

pub returns : goal.returns
returns c =
    let s = c.args.self.now.tree in
    let n = c.args.start in
    let w = c.args.word in
    let at = c.level_indices-i.ensures in
    let o = c.or_block.ensures in
    let below : n < 262080 = omega arith in
    let z : n % 64 ≡ 0 = omega arith in
    let p : 0 < w = omega arith in
    let g = gained s c.or_block.new.self (InsertBlock n w) (outcome c.or_block.result) c.level_indices-i.result.0 c.level_indices-i.result.1 w (sound_of c.args.self.now) (omega (arith, at.level0)) (omega (arith, at.level1)) (search rules) p
    o.answer o.put o.kept (block_added (word s) n _ _ w (omega arith) z at.level0 at.level1) (grind (arith, nat_tests)) in
    record { answer = g.says; roll = g.leaves; kept = λ e. same_set _ _ (o.kept e); lent = o.lent }

pub invariant_of-self : goal.invariant_of-self
invariant_of-self c =
    record { sound = still_sound c.args.self.now.tree c.or_block.new.self (outcome c.or_block.result) (sound_of c.args.self.now) (λ e. (c.or_block.ensures.put e).sound) c.or_block.ensures.kept }

pub or_block-requires-clause-sound : goal.or_block-requires-clause-sound
or_block-requires-clause-sound c = sound_of c.args.self.now
