-- Which indices are left from a place on.
use Rattle.std.proofs.Common.{◌≡◌, ℕ, zero, suc, ◌+◌, ◌*◌, ◌/◌, ◌%◌, ◌<◌, ◌≤◌, Bool, leb, List, [], ◌∷◌, ◌++◌, filter, refl, ap, ◌∙◌, arith, leb-true}
use Rattle.std.specs.List.{AllByRecursion}
use Rattle.std.proofs.lemmas.List.Elements.{filter-append}
use Rattle.std.proofs.ByRecursion.{kept_by_passes, All-append, All-weaker}
use Rattle.std.proofs.lemmas.Bool.Decides.{nat_tests}
use Rattle.bits.specs.Bit.{bit}
use Rattle.bits.specs.Places.{scan, places}
use Rattle.bits.proofs.Laws.{bit_of_zero}
use Rattle.bits.proofs.Listed.{places_zero}
use Rattle.walks.specs.Pending.{row, rows, whole, reaches, onward}
use Rattle.walks.specs.Indices.{placed, spread, from, start_of, Rising}
use Rattle.walks.proofs.Seek.{kept_scan}
use Rattle.walks.proofs.Sifted.{kept_rising}

-- ---- pairs rise

row_each : (P : ℕ × ℕ → Type 0) (i n k w : ℕ) → ((l : ℕ) → k ≤ l → l < k + n → P (i, l)) → AllByRecursion P (row i (scan n k w))
unfolding row scan
row_each P i zero k w h = tt
row_each P i (suc n) k w h =
    let t = row_each P i n (suc k) w (λ l a b. h l (omega arith) (omega arith)) in
    let here = h k (omega arith) (omega arith) in
    grind (arith, t, here)

rows_each : (P : ℕ × ℕ → Type 0) (m : ℕ → ℕ) (n k t : ℕ) → ((i l : ℕ) → k ≤ i → l < 64 → P (i, l)) → AllByRecursion P (rows m (scan n k t))
unfolding rows scan places
rows_each P m zero k t h = tt
rows_each P m (suc n) k t h =
    let r = rows_each P m n (suc k) t (λ i l a b. h i l (omega arith) b) in
    let here = row_each P k 64 0 (m k) (λ l a b. h k l (omega arith) (omega arith)) in
    let both = All-append P (row k (places (m k))) (rows m (scan n (suc k) t)) here r in
    grind (arith, r, both)

rising_append : {X : Type 0} (f : X → ℕ) (xs ys : List X) → Rising f xs → Rising f ys → AllByRecursion (λ x. AllByRecursion (λ y. f x < f y) ys) xs → Rising f (xs ++ ys)
rising_append f [] ys p q h = q
rising_append f (x ∷ xs) ys p q h = (All-append (λ y. f x < f y) xs ys p.0 h.0, rising_append f xs ys p.1 q h.1)

row_rising : (i n k w : ℕ) → Rising start_of (row i (scan n k w))
unfolding row scan
row_rising i zero k w = tt
row_rising i (suc n) k w =
    let here = row_each (λ y. start_of (i, k) < start_of y) i n (suc k) w (λ l a b. omega arith) in
    grind (arith, here, row_rising i n (suc k) w)

rows_rising : (m : ℕ → ℕ) (n k t : ℕ) → Rising start_of (rows m (scan n k t))
unfolding rows scan places
rows_rising m zero k t = tt
rows_rising m (suc n) k t =
    let rest = rows m (scan n (suc k) t) in
    let r = rows_rising m n (suc k) t in
    let both = rising_append start_of (row k (places (m k))) rest (row_rising k 64 0 (m k)) r
    (row_each (λ x. AllByRecursion (λ y. start_of x < start_of y) rest) k 64 0 (m k)
    (λ l a b. rows_each (λ y. start_of (k, l) < start_of y) m n (suc k) t (λ i j c d. omega arith))) in
    grind (arith, r, both)

pub whole_rising : (m : ℕ → ℕ) (t : ℕ) → Rising start_of (whole m t)
unfolding whole places
whole_rising m t = rows_rising m 64 0 t

-- ---- the numbers from s on

kept_placed : (q : ℕ → Bool) (b : ℕ) (ks : List ℕ) → filter q (placed b ks) ≡ placed b (filter (λ k. q (b + k)) ks)
unfolding placed
kept_placed q b [] = refl
kept_placed q b (k ∷ ks) = grind (arith, kept_placed q b ks)

block_kept : (s b w v : ℕ) → ((l : ℕ) → l < 64 → (s ≤ b + l → bit v l ≡ bit w l) × (b + l < s → bit v l ≡ 0)) →
    filter (leb s) (placed b (places w)) ≡ placed b (places v)
unfolding places
block_kept s b w v h =
    kept_placed (leb s) b (places w)
    ∙ ap (placed b) (kept_scan (λ k. leb s (b + k)) 64 0 w v (λ l x y. let r = h l (omega arith) in grind (arith, nat_tests, r.0, r.1)))

from_onward : (word : ℕ → ℕ → ℕ) (s : ℕ) (ps : List (ℕ × ℕ)) → filter (leb s) (spread word ps) ≡ filter (leb s) (spread word (filter (reaches s) ps))
unfolding spread placed
from_onward word s [] = refl
from_onward word s (p ∷ ps) =
    let t = from_onward word s ps in
    let short : start_of p + 63 < s → filter (leb s) (placed (start_of p) (places (word p.0 p.1))) ≡ [] =
    λ z. block_kept s (start_of p) (word p.0 p.1) 0 (λ l a. grind (arith, bit_of_zero)) ∙ ap (placed (start_of p)) places_zero in
    grind (arith, nat_tests, filter-append, t, short)

from_past : (word : ℕ → ℕ → ℕ) (s : ℕ) (ps : List (ℕ × ℕ)) → AllByRecursion (λ p. s ≤ start_of p) ps → filter (leb s) (spread word ps) ≡ spread word ps
unfolding spread
from_past word s [] h = refl
from_past word s (p ∷ ps) h =
    let here = block_kept s (start_of p) (word p.0 p.1) (word p.0 p.1) (λ l a. grind (arith, h.0)) in
    grind (arith, filter-append, here, from_past word s ps h.1)

module _ (word : ℕ → ℕ → ℕ) (m : ℕ → ℕ) (t s : ℕ) where
  pub skip_some : (i j left : ℕ) (ps : List (ℕ × ℕ)) → onward s (whole m t) ≡ (i, j) ∷ ps →
      (s ≤ 4096 * i + 64 * j + 63 → (l : ℕ) → l < 64 → (s ≤ 4096 * i + 64 * j + l → bit left l ≡ bit (word i j) l) × (4096 * i + 64 * j + l < s → bit left l ≡ 0)) →
      placed (4096 * i + 64 * j) (places left) ++ spread word ps ≡ from s (spread word (whole m t))
  unfolding onward from spread
  skip_some i j left ps e h =
      let passes = rw e at (kept_by_passes (reaches s) (whole m t)) in
      let rises = rw e at (kept_rising start_of (reaches s) (whole m t) (whole_rising m t)) in
      let reach = leb-true s (4096 * i + 64 * j + 63) passes.0 in
      let here = block_kept s (4096 * i + 64 * j) (word i j) left (h reach) in
      let rest = from_past word s ps (All-weaker (λ y. start_of (i, j) < start_of y) (λ y. s ≤ start_of y) (λ y l. omega arith) ps rises.0) in
      grind (arith, from_onward word s (whole m t), filter-append, here, rest)

  pub skip_none : onward s (whole m t) ≡ [] → from s (spread word (whole m t)) ≡ []
  unfolding onward from spread
  skip_none e = rw (from_onward, e)

-- what stays of the first block's word
pub word_cut : (s i j w v : ℕ) → 4096 * i + 64 * j ≡ s / 64 * 64 → ((k : ℕ) → k < s % 64 → bit v k ≡ 0) → ((k : ℕ) → s % 64 ≤ k → bit v k ≡ bit w k) →
    s ≤ 4096 * i + 64 * j + 63 → (l : ℕ) → l < 64 → (s ≤ 4096 * i + 64 * j + l → bit v l ≡ bit w l) × (4096 * i + 64 * j + l < s → bit v l ≡ 0)
word_cut s i j w v e below above r l h = grind (arith, below l, above l)

pub word_whole : (s i j w : ℕ) → (4096 * i + 64 * j ≡ s / 64 * 64 → ⊥) →
    s ≤ 4096 * i + 64 * j + 63 → (l : ℕ) → l < 64 → (s ≤ 4096 * i + 64 * j + l → bit w l ≡ bit w l) × (4096 * i + 64 * j + l < s → bit w l ≡ 0)
word_whole s i j w d r l h = grind (arith, d)
