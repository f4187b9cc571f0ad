-- What a walk over blocks has left, step by step.
use Rattle.std.proofs.Common.{◌≡◌, ℕ, [], ◌∷◌}
use Rattle.bits.specs.Places.{places}
use Rattle.walks.specs.Pending.{row, rows, pending, whole}
use Rattle.bits.proofs.Listed.{places_zero}

module _ (m : ℕ → ℕ) where
  pub pending_left : (i left top j left' : ℕ) → places left ≡ j ∷ places left' → pending m i left top ≡ (i, j) ∷ pending m i left' top
  unfolding pending row
  pending_left i left top j left' e = rw e

  pub pending_top : (i left top k top' : ℕ) → places left ≡ [] → places top ≡ k ∷ places top' → pending m i left top ≡ pending m k (m k) top'
  unfolding pending row rows
  pending_top i left top k top' e f = rw (e, f)

  pub pending_none : (i left top : ℕ) → places left ≡ [] → places top ≡ [] → pending m i left top ≡ []
  unfolding pending row rows
  pending_none i left top e f = rw (e, f)

  pub pending_start : (top : ℕ) → pending m 0 0 top ≡ whole m top
  unfolding pending row whole
  pending_start top = rw places_zero
