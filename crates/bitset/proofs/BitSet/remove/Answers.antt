use Rattle.std.proofs.Common.{◌<◌, not, sym, ap, ◌∙◌, arith}
use Rattle.std.proofs.lemmas.Bool.{lt-ltb}
use Rattle.std.proofs.lemmas.Bool.Decides.{nat_tests}
use Rattle.bits.proofs.Laws.{bit_ones}
use Rattle.tree.specs.Trees.{word}
use Rattle.bitset.proofs.Digits.{cut_to, index_not, index_out, index_was}
use Rattle.bitset.proofs.Calls.{put_roll}
use Rattle.bitset.proofs.Kept.{sound_of}
use Rattle.bitset.proofs.BitSet.remove.Goals as goal

pub returns-clause-answer : goal.returns-clause-answer
returns-clause-answer c =
    let at = c.in_ok-i.ensures in
    let below : c.args.index < 262144 = at.0 in
    let was = index_was (word c.args.self.now.tree) c.args.index _ _ _ below at.1 at.2 at.3 in
    grind (arith, nat_tests)

pub returns-clause-roll : goal.returns-clause-roll
returns-clause-roll c =
    let s = c.args.self.now.tree in
    let n = c.args.index in
    let at = c.in_ok-i.ensures in
    let below : n < 262144 = at.0 in
    rw (lt-ltb n 262144 below) (put_roll s _ _ _ _ _ c.and_block-old.ensures.put
    (cut_to (word s) _ _ _ _ (omega (arith, at.1)) (λ m p. index_not n c.clear_bit.result (λ a l. omega (arith, c.clear_bit.ensures a, bit_ones 64 a l, at.3)) m (p.0 ∙ at.1, p.1 ∙ at.2)) (λ m ne. ap not (index_out n m (λ p. ne (p.0 ∙ sym at.1, p.1 ∙ sym at.2))))))

pub and_block-old-requires-clause-sound : goal.and_block-old-requires-clause-sound
and_block-old-requires-clause-sound c = sound_of c.args.self.now
