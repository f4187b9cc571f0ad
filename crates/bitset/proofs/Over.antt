-- Words of which one is replaced: their members' groups and blocks.
use Rattle.std.proofs.Common.{◌≡◌, ℕ, ◌+◌, ◌-◌, ◌^◌, ◌<◌, cond, eqb, refl, ap, arith}
use Rattle.std.proofs.lemmas.Bool.Decides.{nat_tests}
use Rattle.bits.specs.Sums.{total, some}
use Rattle.bits.proofs.Totals.{total_same, total_change, total_at, totals_change}
use Rattle.roll.specs.Members.{groups, blocks, members}
use Rattle.roll.proofs.Counts.{groups_words, blocks_words}

-- the words with v at (i, j)
abbrev pub over : (ℕ → ℕ → ℕ) → ℕ → ℕ → ℕ → ℕ → ℕ → ℕ
over word i j v a b = cond (eqb a i) (cond (eqb b j) v (word a b)) (word a b)

pub over_here : (word : ℕ → ℕ → ℕ) (i j v a b : ℕ) → a ≡ i → b ≡ j → over word i j v a b ≡ v
over_here word i j v a b x y = grind (arith, nat_tests)

pub over_there : (word : ℕ → ℕ → ℕ) (i j v a b : ℕ) → ((a ≡ i) × (b ≡ j) → ⊥) → over word i j v a b ≡ word a b
over_there word i j v a b ne = grind (arith, nat_tests)

module _ (word : ℕ → ℕ → ℕ) (i j v : ℕ) (li : i < 64) (lj : j < 64) (fits : (a b : ℕ) → word a b < 2 ^ 64) (fv : v < 2 ^ 64) where
  over_fits : (a b : ℕ) → over word i j v a b < 2 ^ 64
  over_fits a b = grind (arith, nat_tests, fits a b)

  -- a word above 0 at (i, j) makes one group and one block more, where they were empty
  pub over_groups : 0 < v → groups (members (over word i j v)) ≡ total (λ a. some (total (λ b. some (word a b)) 64)) 64 + (1 - some (total (λ b. some (word i b)) 64))
  over_groups p =
      let w = over word i j v in
      let c = total_change (λ a. some (total (λ b. some (word a b)) 64)) (λ a. some (total (λ b. some (w a b)) 64)) 64 i li
      (λ a ne. ap some (total_same (λ b. some (w a b)) (λ b. some (word a b)) 64 (λ b l. ap some (over_there word i j v a b (λ q. ne q.0))))) in
      omega (arith, groups_words w over_fits, c, total_at (λ b. some (w i b)) 64 j lj, over_here word i j v i j refl refl)

  pub over_blocks : 0 < v → blocks (members (over word i j v)) ≡ total (λ a. total (λ b. some (word a b)) 64) 64 + (1 - some (word i j))
  over_blocks p =
      let w = over word i j v in
      let c = totals_change (λ a b. some (word a b)) (λ a b. some (w a b)) 64 64 i j li lj (λ a b ne. ap some (over_there word i j v a b ne)) in
      omega (arith, blocks_words w over_fits, c, over_here word i j v i j refl refl)
