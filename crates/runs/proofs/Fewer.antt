-- Fewer members have no more groups and blocks, and no members have more than 64 and 4,096.
use Rattle.std.proofs.Common.{◌≡◌, ℕ, ◌+◌, ◌*◌, ◌≤◌, Bool, true, false, refl, arith}
use Rattle.std.proofs.lemmas.Bool.Decides.{nat_tests}
use Rattle.bits.proofs.Totals.{total_le, total_most}
use Rattle.roll.specs.Members.{any, one, groups, blocks}
use Rattle.roll.proofs.Any.{any_true, any_from, any_none}
use Rattle.runs.specs.Memory.{fits}

-- each index of N is one of M
abbrev pub Fewer : (ℕ → Bool) → (ℕ → Bool) → Type 0
Fewer N M = (k : ℕ) → N k ≡ true → M k ≡ true

any_fewer : (N M : ℕ → Bool) (a n : ℕ) → Fewer N M → one (any N a n) ≤ one (any M a n)
any_fewer N M a n h =
    let f : any N a n ≡ true → any M a n ≡ true = λ e. let r = any_true N a n e in any_from M a n r.0 r.1.0 (h (a + r.0) r.1.1) in
    grind arith

pub groups_fewer : (N M : ℕ → Bool) → Fewer N M → groups N ≤ groups M
unfolding groups
groups_fewer N M h = total_le _ _ 64 (λ i li. any_fewer N M (4096 * i) 4096 h)

pub blocks_fewer : (N M : ℕ → Bool) → Fewer N M → blocks N ≤ blocks M
unfolding blocks
blocks_fewer N M h = total_le _ _ 64 (λ i li. total_le _ _ 64 (λ j lj. any_fewer N M (4096 * i + 64 * j) 64 h))

pub groups_most : (M : ℕ → Bool) → groups M ≤ 64
unfolding groups
groups_most M = total_most _ 64 1 (λ i li. grind arith)

pub blocks_most : (M : ℕ → Bool) → blocks M ≤ 4096
unfolding blocks
blocks_most M = total_most _ 64 64 (λ i li. total_most _ 64 1 (λ j lj. grind arith))

-- fewer members fit where more do
pub fits_fewer : (p q : ℕ) (N M : ℕ → Bool) → Fewer N M → fits p q M ≡ true → fits p q N ≡ true
fits_fewer p q N M h e = grind (arith, nat_tests, groups_fewer N M h, blocks_fewer N M h)

-- no members always fit
pub none_fits : (p q : ℕ) → fits p q (λ _. false) ≡ true
unfolding groups blocks
none_fits p q =
    let g : groups (λ _. false) ≤ 64 * 0 = total_most _ 64 0 (λ i li. none (4096 * i) 4096) in
    let b : blocks (λ _. false) ≤ 64 * (64 * 0) = total_most _ 64 (64 * 0) (λ i li. total_most _ 64 0 (λ j lj. none (4096 * i + 64 * j) 64)) in
    grind (arith, nat_tests)
  where
    none : (a n : ℕ) → one (any (λ _. false) a n) ≤ 0
    none a n = rw (any_none (λ _. false) a n (λ k lk. refl)) (omega arith)
