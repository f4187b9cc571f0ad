-- What a queue has handed out so far, and sums over what it has left.
use Rattle.std.proofs.Common.{◌≡◌, ℕ, ◌+◌, Bool, cond, ◌&&◌, eqb, ap, arith}
use Rattle.std.proofs.lemmas.Bool.Decides.{nat_tests}
use Rattle.bits.specs.Bit.{bit, Lost}
use Rattle.bits.specs.Sums.{total}
use Rattle.bits.proofs.Laws.{bit_of_zero}
use Rattle.bits.proofs.Totals.{total_change, total_most}

-- the places of group i, and the groups, that a queue has no more
abbrev pub gone_places : ℕ → ℕ → ℕ → ℕ → Bool
gone_places i left a b = eqb a i && eqb (bit left b) 0

abbrev pub gone_groups : ℕ → ℕ → ℕ → Bool
gone_groups top a b = eqb (bit top a) 0

-- f at the places that a queue has left, and 0 elsewhere
abbrev pub left_of : ℕ → (ℕ → ℕ) → ℕ → ℕ
left_of w f a = cond (eqb (bit w a) 1) (f a) 0

-- handing out k takes f k from the sum
pub sum_lost : (w k v : ℕ) (f : ℕ → ℕ) → Lost w k v → total (left_of w f) 64 ≡ f k + total (left_of v f) 64
sum_lost w k v f h =
    let c = total_change (left_of w f) (left_of v f) 64 k h.within (λ a ne. ap (λ x. cond (eqb x 1) (f a) 0) (h.rest a ne)) in
    grind (arith, nat_tests, h.one, h.gone)

pub sum_end : (w : ℕ) (f : ℕ → ℕ) → w ≡ 0 → total (left_of w f) 64 ≡ 0
sum_end w f z = omega (arith, total_most (left_of w f) 64 0 (λ a l. grind (arith, nat_tests, bit_of_zero a)))
