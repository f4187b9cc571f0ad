use Rattle.std.proofs.Common.{◌<◌, sym, ◌∙◌, arith, rules}
use Rattle.std.proofs.lemmas.Bool.Decides.{nat_tests}
use Rattle.bits.proofs.Laws.{bit_pos, bit_of_zero}
use Rattle.roll.specs.Roll.{Insert}
use Rattle.roll.specs.Answers.{outcome}
use Rattle.tree.specs.Trees.{word}
use Rattle.bitset.proofs.Digits.{joined, index_in, index_out}
use Rattle.bitset.proofs.Calls.{gained}
use Rattle.bitset.proofs.Kept.{sound_of, same_set, still_sound}
use Rattle.bitset.proofs.BitSet.insert.Goals as goal

pub or_block-requires : goal.or_block-requires
or_block-requires c =
    let below : c.args.index < 262144 = c.in_ok-i.ensures.0 in
    record {
      sound = sound_of c.args.self.now;
      place = (omega (arith, c.in_ok-i.ensures.1), omega (arith, c.in_ok-i.ensures.2));
      some = bit_pos _ c.in_ok-i.k (omega (arith, c.set_bit.ensures c.in_ok-i.k, bit_of_zero c.in_ok-i.k));
    }

pub returns : goal.returns
returns c =
    let s = c.args.self.now.tree in
    let n = c.args.index in
    let at = c.in_ok-i.ensures in
    let o = c.or_block.ensures in
    let below : n < 262144 = at.0 in
    let g = gained s c.or_block.new.self (Insert n) (outcome c.or_block.result) c.in_ok-i.i c.in_ok-i.j c.set_bit.result (sound_of c.args.self.now) (omega (arith, at.1)) (omega (arith, at.2)) (search rules) (bit_pos _ c.in_ok-i.k (omega (arith, c.set_bit.ensures c.in_ok-i.k, bit_of_zero c.in_ok-i.k)))
    o.answer o.put o.kept
    (joined (word s) _ _ _ _ (omega (arith, at.1)) (λ m p. index_in n c.set_bit.result (λ a. omega (arith, c.set_bit.ensures a, bit_of_zero a, at.3)) m (p.0 ∙ at.1, p.1 ∙ at.2)) (λ m ne. index_out n m (λ p. ne (p.0 ∙ sym at.1, p.1 ∙ sym at.2))))
    (grind (arith, nat_tests)) in
    record { answer = g.says; roll = g.leaves; kept = λ e. same_set _ _ (o.kept e); lent = o.lent }

pub invariant_of-self : goal.invariant_of-self
invariant_of-self c =
    record { sound = still_sound c.args.self.now.tree c.or_block.new.self (outcome c.or_block.result) (sound_of c.args.self.now) (λ e. (c.or_block.ensures.put e).sound) c.or_block.ensures.kept }
