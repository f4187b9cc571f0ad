use Rattle.std.proofs.Common.{◌≡◌, ℕ, ◌<◌, true, false}
use Rattle.bits.specs.Bit.{bit}
use Rattle.walks.specs.Pending.{reaches}
use Rattle.walks.proofs.Seek.{seek_some, seek_none, left_cut, left_whole}
use Rattle.walks.proofs.block_iter.BlockIter.move_to.Goals as goal
use Rattle.walks.proofs.block_iter.BlockIter.move_to.Goals.{then-i-group, else-i-group}

pub returns-after-i-group-clause-onward : goal.returns-after-i-group-clause-onward
returns-after-i-group-clause-onward g c =
    let m = g.T.LevelMasks.middle c.args.self.now.set in
    let s = c.args.s in
    let i = c.in-Some.i in
    let left = c.if-i-group.self in
    let lost = c.in-Some.ensures.bits in
    let below = c.zero_first_n-self.ensures.below in
    let above = rw c.level0_mask.ensures at c.zero_first_n-self.ensures.above in
    let h : (l : ℕ) → l < 64 → (reaches s (i, l) ≡ true → bit left l ≡ bit (m i) l) × (reaches s (i, l) ≡ false → bit left l ≡ 0) =
    rw (← c.init_level1_block_data-left.ensures.mask) (elim c.if-i-group.branch [
      | then-i-group w ↦ rw w.self-is (left_cut s i _ _ w.if-i-group.true w.zero_first_n-self-then-i-group.ensures.below w.zero_first_n-self-then-i-group.ensures.above)
      | else-i-group w ↦ rw w.self-is (left_whole s i _ _ below lost.one w.if-i-group.false)
    ]) in
    seek_some m s _ c.zero_first_n-self.result below above i c.pop_front.new.word left lost c.in-Some.ensures.list h

pub returns-in-None-clause-onward : goal.returns-in-None-clause-onward
returns-in-None-clause-onward g c =
    let m = g.T.LevelMasks.middle c.args.self.now.set in
    let above = rw c.level0_mask.ensures at c.zero_first_n-self.ensures.above in
    seek_none m c.args.s _ _ c.zero_first_n-self.ensures.below above _ _ c.in-None.ensures.list.0 c.in-None.ensures.list.1
