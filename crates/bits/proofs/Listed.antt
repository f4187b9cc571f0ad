-- A word as the list of its one bits.
use Rattle.std.proofs.Common.{◌≡◌, ℕ, zero, suc, ◌+◌, ◌<◌, ◌≤◌, [], ◌∷◌, refl, ◌∙◌, inl, inr, arith, eq-eqb, ne_eqb}
use Rattle.std.proofs.lemmas.Bool.{cases_eq}
use Rattle.bits.specs.Bit.{bit, Lost}
use Rattle.bits.specs.Places.{scan, places}

pub scan_one : (n k w : ℕ) → bit w k ≡ 1 → scan (suc n) k w ≡ k ∷ scan n (suc k) w
unfolding scan
scan_one n k w e = rw (eq-eqb (bit w k) 1 e)

pub scan_none : (n k w : ℕ) → bit w k ≡ 0 → scan (suc n) k w ≡ scan n (suc k) w
unfolding scan
scan_none n k w e = rw (ne_eqb (bit w k) 1 (λ h. omega arith))

scan_same : (n k w v : ℕ) → ((l : ℕ) → k ≤ l → bit w l ≡ bit v l) → scan n k w ≡ scan n k v
unfolding scan
scan_same zero k w v h = refl
scan_same (suc n) k w v h = rw (h k (omega arith), scan_same n (suc k) w v (λ l p. h l (omega arith)))

scan_lost : (n k w i v : ℕ) → Lost w i v → k ≤ i → i < k + n → scan n k w ≡ i ∷ scan n k v
scan_lost zero k w i v h p q = absurd (omega arith)
scan_lost (suc n) k w i v h p q =
    elim (cases_eq k i) [
      | inl e ↦ cc (scan_one n k w (rw e h.one), scan_same n (suc k) w v (λ l s. grind (arith, h.rest l)), scan_none n k v (rw e h.gone))
      | inr d ↦ cc (scan_none n k w (h.lowest k (omega arith)), scan_lost n (suc k) w i v h (omega arith) (omega arith), scan_none n k v (h.rest k d ∙ h.lowest k (omega arith)))
    ]

pub places_lost : (w i v : ℕ) → Lost w i v → places w ≡ i ∷ places v
unfolding places
places_lost w i v h = scan_lost 64 0 w i v h (omega arith) (omega (arith, h.within))

pub places_zero : places 0 ≡ []
unfolding places scan bit
places_zero = refl
