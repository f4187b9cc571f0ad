-- Whether a set has one of the n indices from a on.
use Rattle.std.proofs.Common.{◌≡◌, ℕ, zero, suc, ◌+◌, ◌<◌, Bool, true, false, refl, inl, inr, arith}
use Rattle.std.proofs.lemmas.Bool.{or_cases}
use Rattle.std.proofs.lemmas.Bool.Decides.{nat_tests}
use Rattle.roll.specs.Members.{any}

-- one of them is there
pub any_true : (M : ℕ → Bool) (a n : ℕ) → any M a n ≡ true → (k : ℕ) × ((k < n) × (M (a + k) ≡ true))
unfolding any
any_true M a zero e = absurd (cc)
any_true M a (suc n) e =
    elim (or_cases (M (a + n)) (any M a n) e) [
      | inl h ↦ (n, (omega arith, h))
      | inr h ↦ let r = any_true M a n h in (r.0, (omega (arith, r.1.0), r.1.1))
    ]

pub any_from : (M : ℕ → Bool) (a n k : ℕ) → k < n → M (a + k) ≡ true → any M a n ≡ true
unfolding any
any_from M a zero k lt h = absurd (omega arith)
any_from M a (suc n) k lt h = grind (arith, nat_tests, λ (l : k < n). any_from M a n k l h)

-- none is there
pub any_none : (M : ℕ → Bool) (a n : ℕ) → ((k : ℕ) → k < n → M (a + k) ≡ false) → any M a n ≡ false
unfolding any
any_none M a zero e = refl
any_none M a (suc n) e = rw (e n (omega arith), any_none M a n (λ k l. e k (omega arith)))
