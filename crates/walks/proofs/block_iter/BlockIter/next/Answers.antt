use Rattle.std.proofs.Common.{arith, ◌≡◌, ℕ, refl, ◌∙◌}
use Rattle.std.proofs.lemmas.Grind.{not_there}
use denote.Struct.Props.{props}
use mathlib.Core.Logic.{∥∥₁_elim}
use Rattle.walks.proofs.Moves.{pending_left, pending_top, pending_none}
use Rattle.walks.proofs.block_iter.BlockIter.next.Goals as goal

-- what a record gives, where there is one that was prepared
read : {w : ℕ → ℕ} {P : ℕ → Type 0} {i r : ℕ} → ((k : ℕ) → P k → r ≡ w k) → ∥ P i ∥₁ → r ≡ w i
read {w = w} {i = i} {r = r} f p = let prop : IsProp (r ≡ w i) = hlevel props in ∥∥₁_elim p prop (f i)

pub loop-j-preserved : goal.loop-j-preserved
loop-j-preserved g c = grind (arith, pending_top)

pub returns-in_err-i-clause-handed : goal.returns-in_err-i-clause-handed
returns-in_err-i-clause-handed g c = grind (arith, pending_none)

pub returns-clause-handed : goal.returns-clause-handed
returns-clause-handed g c = (
  (c.loop-j.self.i, c.in-Some.j),
  (
    c.loop-j.invariant.1 ∙ pending_left _ _ _ _ _ _ c.in-Some.ensures.list,
    refl,
    grind (arith, not_there, c.data_mask_from_block_data-bit_block.ensures),
    c.loop-j.self.within,
    c.in-Some.ensures.bits.within,
  ),
)
