use Rattle.std.proofs.Common.{◌≡◌, ℕ, ◌+◌, ◌*◌, ◌<◌, ◌≤◌, ◌∙◌, arith}
use Rattle.bits.specs.Bit.{bit}
use Rattle.walks.proofs.Sifted.{lists_from}
use Rattle.walks.proofs.Skip.{word_cut, word_whole}
use Rattle.walks.proofs.Sought.{sought_some, sought_none}
use Rattle.walks.proofs.index_iter.IndexIter.move_to.Goals as goal
use Rattle.walks.proofs.index_iter.IndexIter.move_to.Goals.{then-start-s, else-start-s}

pub returns-after-start-s-clause-onward : goal.returns-after-start-s-clause-onward
returns-after-start-s-clause-onward g c =
    let s = c.args.s in
    let told = c.in-Some.ensures in
    let a = told.handed.0.0 in
    let b = told.handed.0.1 in
    let at = told.handed.1 in
    let v = c.in-Some.block.bit_block in
    let h : s ≤ 4096 * a + 64 * b + 63 → (k : ℕ) → k < 64 →
    (s ≤ 4096 * a + 64 * b + k → bit c.if-start-s.self k ≡ bit v k) × (4096 * a + 64 * b + k < s → bit c.if-start-s.self k ≡ 0) =
    elim c.if-start-s.branch [
      | then-start-s x ↦ rw x.self-is (word_cut s a b v _ (omega (arith, at.1, x.if-start-s.true)) x.zero_first_n-self.ensures.below x.zero_first_n-self.ensures.above)
      | else-start-s x ↦ rw x.self-is (word_whole s a b v (λ e. x.if-start-s.false (at.1 ∙ e)))
    ] in
    sought_some g.T.LevelMasks.middle g.T.LevelMasks.word c.args.self.now.walk.set c.move_to.new.self.set c.next.new.self.set
    c.move_to.ensures.same told.same _ _ c.rules.ensures s _ _ _ c.move_to.ensures.onward a b c.in-Some.block.start_index v c.if-start-s.self _ _ _ at.0 at.1 at.2 h

pub returns-after-start-s-clause-lists : goal.returns-after-start-s-clause-lists
returns-after-start-s-clause-lists g c = rw (returns-after-start-s-clause-onward g c) (lists_from _ _)

pub returns-in-None-clause-onward : goal.returns-in-None-clause-onward
returns-in-None-clause-onward g c =
    let told = c.in-None.ensures in
    sought_none g.T.LevelMasks.middle g.T.LevelMasks.word c.args.self.now.walk.set c.move_to.new.self.set c.next.new.self.set
    c.move_to.ensures.same told.same _ _ c.rules.ensures c.args.s _ _ _ c.move_to.ensures.onward _ _ _ c.args.self.now.start told.handed.0 told.handed.1

pub returns-in-None-clause-lists : goal.returns-in-None-clause-lists
returns-in-None-clause-lists g c = rw (returns-in-None-clause-onward g c) (lists_from _ _)
