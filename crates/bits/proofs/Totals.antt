-- Sums, and what one changed term changes.
use Rattle.std.proofs.Common.{◌≡◌, ℕ, zero, suc, ◌+◌, ◌-◌, ◌*◌, ◌<◌, ◌≤◌, ◌≢◌, refl, inl, inr, arith}
use Rattle.std.proofs.lemmas.Bool.{cases_eq}
use Rattle.bits.specs.Sums.{total}

pub total_same : (f g : ℕ → ℕ) (n : ℕ) → ((i : ℕ) → i < n → f i ≡ g i) → total f n ≡ total g n
unfolding total
total_same f g zero e = refl
total_same f g (suc n) e = omega (arith, e n (omega arith), total_same f g n (λ i lt. e i (omega arith)))

-- a change at one place
pub total_change : (f g : ℕ → ℕ) (n i : ℕ) → i < n → ((a : ℕ) → a ≢ i → g a ≡ f a) → total g n + f i ≡ total f n + g i
unfolding total
total_change f g zero i lt e = absurd (omega arith)
total_change f g (suc n) i lt e = grind (arith, e n, λ (x : n ≡ i). total_same g f n (λ a l. e a (omega arith)), λ (l : i < n). total_change f g n i l e)

pub total_at : (f : ℕ → ℕ) (n i : ℕ) → i < n → f i ≤ total f n
unfolding total
total_at f zero i lt = absurd (omega arith)
total_at f (suc n) i lt = grind (arith, total_at f n i)

pub total_two : (f : ℕ → ℕ) (n a b : ℕ) → a < n → b < n → a ≢ b → f a + f b ≤ total f n
unfolding total
total_two f zero a b la lb ne = absurd (omega arith)
total_two f (suc n) a b la lb ne = grind (arith, total_at f n a, total_at f n b, total_two f n a b)

-- sums of sums
pub total_sum : (f g h : ℕ → ℕ) (n : ℕ) → ((i : ℕ) → i < n → f i + g i ≡ h i) → total f n + total g n ≡ total h n
unfolding total
total_sum f g h zero e = refl
total_sum f g h (suc n) e = omega (arith, e n (omega arith), total_sum f g h n (λ i lt. e i (omega arith)))

-- the first term apart
pub total_front : (f : ℕ → ℕ) (n : ℕ) → total f (suc n) ≡ f 0 + total (λ i. f (suc i)) n
unfolding total
total_front f zero = refl
total_front f (suc n) = omega (arith, total_front f n)

-- n terms of at most m
pub total_most : (f : ℕ → ℕ) (n m : ℕ) → ((i : ℕ) → i < n → f i ≤ m) → total f n ≤ n * m
unfolding total
total_most f zero m h = omega arith
total_most f (suc n) m h = omega (arith, h n (omega arith), total_most f n m (λ i lt. h i (omega arith)))

-- a sum is at most another that has no smaller term, by the difference at one place too
pub total_le : (f g : ℕ → ℕ) (n : ℕ) → ((i : ℕ) → i < n → f i ≤ g i) → total f n ≤ total g n
unfolding total
total_le f g zero h = omega arith
total_le f g (suc n) h = omega (arith, h n (omega arith), total_le f g n (λ i lt. h i (omega arith)))

pub total_gap : (f g : ℕ → ℕ) (n i : ℕ) → i < n → ((a : ℕ) → a < n → f a ≤ g a) → total f n + (g i - f i) ≤ total g n
unfolding total
total_gap f g zero i lt h = absurd (omega arith)
total_gap f g (suc n) i lt h = grind (arith, h n, total_le f g n (λ a l. h a (omega arith)), λ (l : i < n). total_gap f g n i l (λ a k. h a (omega arith)))

-- where the sum is not 0, one of its terms is not
pub total_some : (f : ℕ → ℕ) (n : ℕ) → 0 < total f n → (i : ℕ) × (i < n) × (0 < f i)
unfolding total
total_some f zero h = absurd (omega arith)
total_some f (suc n) h =
    elim (cases_eq (f n) 0) [
      | inl z ↦ let r = total_some f n (omega arith) in (r.0, omega (arith, r.1), r.2)
      | inr nz ↦ (n, omega arith, omega arith)
    ]

-- the same of sums of sums
pub totals_same : (f g : ℕ → ℕ → ℕ) (n m : ℕ) → ((i j : ℕ) → i < n → j < m → f i j ≡ g i j) → total (λ i. total (f i) m) n ≡ total (λ i. total (g i) m) n
totals_same f g n m e = total_same (λ i. total (f i) m) (λ i. total (g i) m) n (λ i li. total_same (f i) (g i) m (λ j lj. e i j li lj))

pub totals_change : (f g : ℕ → ℕ → ℕ) (n m i j : ℕ) → i < n → j < m → ((a b : ℕ) → ((a ≡ i) × (b ≡ j) → ⊥) → g a b ≡ f a b) → total (λ a. total (g a) m) n + f i j ≡ total (λ a. total (f a) m) n + g i j
totals_change f g n m i j li lj e = omega (arith, total_change (f i) (g i) m j lj (λ b ne. e i b (λ p. ne p.1)), total_change (λ a. total (f a) m) (λ a. total (g a) m) n i li (λ a ne. total_same (g a) (f a) m (λ b lb. e a b (λ p. ne p.0))))

pub totals_at : (f : ℕ → ℕ → ℕ) (n m i j : ℕ) → i < n → j < m → f i j ≤ total (λ a. total (f a) m) n
totals_at f n m i j li lj = omega (arith, total_at (f i) m j lj, total_at (λ a. total (f a) m) n i li)

pub totals_two : (f : ℕ → ℕ → ℕ) (n m i j a b : ℕ) → i < n → j < m → a < n → b < m → ((a ≡ i) × (b ≡ j) → ⊥) → f i j + f a b ≤ total (λ a. total (f a) m) n
totals_two f n m i j a b li lj la lb ne =
    grind (arith, total_two (f i) m j b lj lb, total_at (λ a. total (f a) m) n i li, total_two (λ a. total (f a) m) n i a li la, total_at (f i) m j lj, total_at (f a) m b lb)

pub totals_gap : (f g : ℕ → ℕ → ℕ) (n m i j : ℕ) → i < n → j < m → ((a b : ℕ) → a < n → b < m → f a b ≤ g a b) → total (λ a. total (f a) m) n + (g i j - f i j) ≤ total (λ a. total (g a) m) n
totals_gap f g n m i j li lj h = omega (arith, total_gap (f i) (g i) m j lj (λ b lb. h i b li lb), total_gap (λ a. total (f a) m) (λ a. total (g a) m) n i li (λ a la. total_le (f a) (g a) m (λ b lb. h a b la lb)))
