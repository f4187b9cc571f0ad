use Rattle.std.proofs.Common.{false, ap}
use Rattle.bitset.specs.Sets.{slots_of}
use Rattle.bitset.proofs.Calls.{same_roll}
use Rattle.bitset.proofs.Digits.{no_bit}
use Rattle.bitset.proofs.BitSet.new.Goals as goal

pub returns-clause-roll : goal.returns-clause-roll
returns-clause-roll c =
    let t = c.new-tree.ensures in
    same_roll _ (λ _. false) _ _ _ _ (λ m. no_bit m _ (t.empty _ _)) (ap slots_of t.pools.0) (ap slots_of t.pools.1)
