-- What a seek leaves of a walk over blocks.
use Rattle.std.proofs.Common.{◌≡◌, ℕ, zero, suc, ◌+◌, ◌/◌, ◌%◌, ◌<◌, ◌≤◌, Bool, true, false, ◌⊎◌, List, [], ◌∷◌, filter, refl, ap, ◌∙◌, arith}
use Rattle.std.proofs.lemmas.List.Elements.{filter-append}
use Rattle.std.proofs.lemmas.Bool.Decides.{nat_tests}
use Rattle.bits.specs.Bit.{bit, Lost}
use Rattle.bits.specs.Places.{scan, places}
use Rattle.bits.proofs.Laws.{bit_lt, bit_of_zero}
use Rattle.bits.proofs.Listed.{places_zero}
use Rattle.walks.specs.Pending.{row, rows, pending, whole, reaches, onward}

-- of the places of a word: those of a word that has its bits where the test passes, and zeros elsewhere
pub kept_scan : (q : ℕ → Bool) (n k w v : ℕ) →
    ((l : ℕ) → k ≤ l → l < k + n → (q l ≡ true → bit v l ≡ bit w l) × (q l ≡ false → bit v l ≡ 0)) → filter q (scan n k w) ≡ scan n k v
unfolding scan
kept_scan q zero k w v h = refl
kept_scan q (suc n) k w v h =
    let t = kept_scan q n (suc k) w v (λ l a b. h l (omega arith) (omega arith)) in
    let at = h k (omega arith) (omega arith) in
    grind (arith, nat_tests, bit_lt, t, at.0, at.1)

pub kept_row : (q : ℕ × ℕ → Bool) (i : ℕ) (js : List ℕ) → filter q (row i js) ≡ row i (filter (λ j. q (i, j)) js)
unfolding row
kept_row q i [] = refl
kept_row q i (j ∷ js) = grind (arith, kept_row q i js)

pub kept_word : (q : ℕ × ℕ → Bool) (i w v : ℕ) →
    ((l : ℕ) → l < 64 → (q (i, l) ≡ true → bit v l ≡ bit w l) × (q (i, l) ≡ false → bit v l ≡ 0)) →
    filter q (row i (places w)) ≡ row i (places v)
unfolding places
kept_word q i w v h = kept_row q i (places w) ∙ ap (row i) (kept_scan (λ j. q (i, j)) 64 0 w v (λ l a b. h l (omega arith)))

-- rows of which nothing is kept can be left out
pub kept_drop : (q : ℕ × ℕ → Bool) (m : ℕ → ℕ) (n k t t' : ℕ) →
    ((i : ℕ) → (bit t' i ≡ bit t i) ⊎ ((bit t' i ≡ 0) × ((l : ℕ) → l < 64 → q (i, l) ≡ false))) →
    filter q (rows m (scan n k t)) ≡ filter q (rows m (scan n k t'))
unfolding scan rows row
kept_drop q m zero k t t' h = refl
kept_drop q m (suc n) k t t' h =
    let r = kept_drop q m n (suc k) t t' h in
    let nothing : ((l : ℕ) → l < 64 → q (k, l) ≡ false) → filter q (row k (places (m k))) ≡ [] =
    λ f. kept_word q k (m k) 0 (λ l a. grind (arith, f l a, bit_of_zero)) ∙ ap (row k) places_zero in
    grind (arith, nat_tests, bit_lt, filter-append, r, h k, nothing)

-- rows of which all is kept
pub kept_all : (q : ℕ × ℕ → Bool) (m : ℕ → ℕ) (n k t : ℕ) →
    ((i : ℕ) → bit t i ≡ 1 → (l : ℕ) → l < 64 → q (i, l) ≡ true) →
    filter q (rows m (scan n k t)) ≡ rows m (scan n k t)
unfolding scan rows
kept_all q m zero k t h = refl
kept_all q m (suc n) k t h =
    let r = kept_all q m n (suc k) t h in
    let here : bit t k ≡ 1 → filter q (row k (places (m k))) ≡ row k (places (m k)) =
    λ e. kept_word q k (m k) (m k) (λ l a. grind (arith, h k e l a)) in
    grind (arith, nat_tests, bit_lt, filter-append, r, here)

-- ---- a seek

module _ (m : ℕ → ℕ) (s t t' : ℕ) (below : (k : ℕ) → k < s / 4096 → bit t' k ≡ 0) (above : (k : ℕ) → s / 4096 ≤ k → bit t' k ≡ bit t k) where
  cut_top : filter (reaches s) (rows m (places t)) ≡ filter (reaches s) (rows m (places t'))
  unfolding places
  cut_top = kept_drop (reaches s) m 64 0 t t' (λ i. grind (arith, nat_tests, below i, above i))

  -- a place left after the first is past the group of s
  rest : (i t'' : ℕ) → Lost t' i t'' → filter (reaches s) (rows m (places t'')) ≡ rows m (places t'')
  unfolding places
  rest i t'' lost = kept_all (reaches s) m 64 0 t'' (λ k e l h. grind (arith, nat_tests, lost.gone, lost.one, below i, lost.rest k, lost.lowest k))

  pub seek_some : (i t'' left : ℕ) → Lost t' i t'' → places t' ≡ i ∷ places t'' →
      ((l : ℕ) → l < 64 → (reaches s (i, l) ≡ true → bit left l ≡ bit (m i) l) × (reaches s (i, l) ≡ false → bit left l ≡ 0)) →
      pending m i left t'' ≡ onward s (whole m t)
  unfolding pending whole onward rows
  seek_some i t'' left lost e h =
      let kept = kept_word (reaches s) i (m i) left h in
      grind (arith, filter-append, cut_top, rest i t'' lost)

  pub seek_none : (i t'' : ℕ) → places t' ≡ [] → places t'' ≡ [] → pending m i 0 t'' ≡ onward s (whole m t)
  unfolding pending whole onward rows row
  seek_none i t'' e f = grind (arith, places_zero, cut_top)

-- what stays of the first group's middle word
pub left_cut : (s i w v : ℕ) → i ≡ s / 4096 → ((k : ℕ) → k < s % 4096 / 64 → bit v k ≡ 0) → ((k : ℕ) → s % 4096 / 64 ≤ k → bit v k ≡ bit w k) →
    (l : ℕ) → l < 64 → (reaches s (i, l) ≡ true → bit v l ≡ bit w l) × (reaches s (i, l) ≡ false → bit v l ≡ 0)
left_cut s i w v e below above l h = grind (arith, nat_tests, below l, above l)

pub left_whole : (s i t w : ℕ) → ((k : ℕ) → k < s / 4096 → bit t k ≡ 0) → bit t i ≡ 1 → (i ≡ s / 4096 → ⊥) →
    (l : ℕ) → l < 64 → (reaches s (i, l) ≡ true → bit w l ≡ bit w l) × (reaches s (i, l) ≡ false → bit w l ≡ 0)
left_whole s i t w below e d l k = grind (arith, nat_tests, below i)
