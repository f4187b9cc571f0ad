-- Held slots from counts of names.
use Rattle.std.proofs.Common.{◌≡◌, ℕ, zero, suc, ◌+◌, ◌<◌, ◌≤◌, false, ◌≢◌, refl, ◌∙◌, ⊎_elim, arith}
use Rattle.std.proofs.lemmas.Bool.{cases_eq}
use Rattle.std.proofs.lemmas.Bool.Decides.{nat_tests}
use Rattle.pool.specs.Pool.{only, without, tally}
use Rattle.pool.proofs.Chains.{tally_only, tally_same, fresh_tally}
use Rattle.bits.specs.Sums.{total, some, same}
use Rattle.tree.specs.Trees.{held_by}

pub held_more : (c c' : ℕ → ℕ) (i : ℕ) → 0 < i → ((k : ℕ) → 0 < k → c' k ≡ c k + same k i) → (k : ℕ) → only i (held_by c) k ≡ held_by c' k
held_more c c' i p h k = grind (arith, nat_tests, h k)

pub held_less : (c c' : ℕ → ℕ) (i : ℕ) → 0 < i → c i ≤ 1 → ((k : ℕ) → 0 < k → c' k + same k i ≡ c k) → (k : ℕ) → without i (held_by c) k ≡ held_by c' k
held_less c c' i p o h k = grind (arith, nat_tests, h k)

-- the names of m places more, each named once at most: as many slots more are held as names are not 0
pub tally_names : (b c f : ℕ → ℕ) (m n : ℕ) → ((k : ℕ) → c k ≡ b k + total (λ i. same k (f i)) m) → ((i : ℕ) → i < m → f i < n) → ((k : ℕ) → 0 < k → c k ≤ 1) → tally (held_by c) n ≡ tally (held_by b) n + total (λ i. some (f i)) m
unfolding total
tally_names b c f zero n e lt one = omega (arith, tally_same (held_by c) (held_by b) (λ k. grind (arith, nat_tests, e k)) n)
tally_names b c f (suc m) n e lt one =
    let d : ℕ → ℕ = λ k. b k + total (λ i. same k (f i)) m in
    let ih = tally_names b d f m n (λ k. refl) (λ i l. lt i (omega arith)) (λ k p. omega (arith, e k, one k p)) in
    ⊎_elim
    (λ (z : f m ≡ 0). omega (arith, ih, tally_same (held_by d) (held_by c) (λ k. grind (arith, nat_tests, e k)) n))
    (λ (nz : f m ≢ 0). omega (arith, ih, tally_only (f m) (held_by d) n (grind (arith, nat_tests, e (f m), one (f m))) (lt m (omega arith)), tally_same (only (f m) (held_by d)) (held_by c) (held_more d c (f m) (omega arith) (λ k p. omega (arith, e k))) n))
    (cases_eq (f m) 0)

-- the same of m rows of p places
pub tally_rows : (b c : ℕ → ℕ) (f : ℕ → ℕ → ℕ) (m p n : ℕ) → ((k : ℕ) → c k ≡ b k + total (λ i. total (λ j. same k (f i j)) p) m) → ((i j : ℕ) → i < m → j < p → f i j < n) → ((k : ℕ) → 0 < k → c k ≤ 1) → tally (held_by c) n ≡ tally (held_by b) n + total (λ i. total (λ j. some (f i j)) p) m
unfolding total
tally_rows b c f zero p n e lt one = omega (arith, tally_same (held_by c) (held_by b) (λ k. grind (arith, nat_tests, e k)) n)
tally_rows b c f (suc m) p n e lt one =
    let d : ℕ → ℕ = λ k. b k + total (λ i. total (λ j. same k (f i j)) p) m in
    omega (arith, tally_rows b d f m p n (λ k. refl) (λ i j l r. lt i j (omega arith) r) (λ k q. omega (arith, e k, one k q)), tally_names d c (f m) p n (λ k. omega (arith, e k)) (λ j l. lt m j (omega arith) l) one)

pub tally_none : (n : ℕ) → tally (held_by (λ _. 0)) n ≡ 0
tally_none n = tally_same (held_by (λ _. 0)) (λ _. false) (λ k. grind (arith, nat_tests)) n ∙ fresh_tally n
