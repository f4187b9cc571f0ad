-- What a walk over members has left, step by step.
use Rattle.std.proofs.Common.{◌≡◌, ℕ, ◌+◌, ◌*◌, [], ◌∷◌}
use Rattle.bits.specs.Places.{places}
use Rattle.bits.proofs.Listed.{places_zero}
use Rattle.walks.specs.Pending.{pending, whole}
use Rattle.walks.specs.Indices.{placed, spread, remaining}

module _ (m : ℕ → ℕ) (w : ℕ → ℕ → ℕ) where
  pub rem_word : (i l t start here k here' : ℕ) → places here ≡ k ∷ places here' →
      remaining m w i l t start here ≡ (start + k) ∷ remaining m w i l t start here'
  unfolding remaining placed
  rem_word i l t start here k here' e = rw e

  pub rem_none : (i l t start here : ℕ) → places here ≡ [] → pending m i l t ≡ [] → remaining m w i l t start here ≡ []
  unfolding remaining placed spread
  rem_none i l t start here e f = rw (e, f)

  pub rem_start : (i l t start top : ℕ) → pending m i l t ≡ whole m top → remaining m w i l t start 0 ≡ spread w (whole m top)
  unfolding remaining placed
  rem_start i l t start top e = rw (places_zero, e)

-- the same over a set that stays equal
module _ {S : Type 0} (mid : S → ℕ → ℕ) (word : S → ℕ → ℕ → ℕ) (s s' : S) (same : s' ≡ s) where
  pub took_block : (i l t start here a b i' l' t' st v : ℕ) → places here ≡ [] → pending (mid s) i l t ≡ (a, b) ∷ pending (mid s') i' l' t' → st ≡ 4096 * a + 64 * b → v ≡ word s a b →
      remaining (mid s) (word s) i l t start here ≡ remaining (mid s') (word s') i' l' t' st v
  unfolding remaining placed spread
  took_block i l t start here a b i' l' t' st v e f es h = rw (same, es, h, e, rw same at f)
