use Rattle.std.proofs.Common.{◌≡◌, ℕ, ◌*◌, ◌^◌, Bool, false, ◌||◌, eqb, map, refl, lit<, arith}
use mathlib.Core.Path.{fun_ext}
use Rattle.std.proofs.lemmas.Bool.Decides.{nat_tests}
use lib.Bits.{bit_and, and_zero_l, and_zero_r}
use Rattle.bits.specs.Sums.{total}
use Rattle.bits.specs.Indices.{offset}
use Rattle.roll.specs.Roll.{Done, Refused, nobody}
use Rattle.operands.specs.Combined.{joined}
use Rattle.walks.specs.Indices.{from}
use Rattle.runs.specs.Asks.{replies}
use Rattle.worked.specs.Table.{run1, run2, asked, told}
use Rattle.worked.proofs.Runs.{nowhere}
use Rattle.worked.proofs.Counts.{walk, walk_0}
use Rattle.worked.proofs.Held.{empty, put, gone, counted}
use Rattle.worked.proofs.Xors.{emptied}
use Rattle.worked.proofs.cases_hold.Goals as goal

-- And of {4,096} and {4,097} has no member
apart : (n : ℕ) → joined bit_and n (eqb n 4096) (eqb n 4097) ≡ false
apart n =
    let z : 0 * 2 ^ offset n ≡ 0 = omega arith in
    nowhere bit_and n (eqb n 4096) (eqb n 4097) (grind (arith, nat_tests, and_zero_l, and_zero_r))

-- so a set that gains it is as it was
members_stay : (M : ℕ → Bool) → (λ m. M m || joined bit_and m (eqb m 4096) (eqb m 4097)) ≡ M
members_stay M = fun_ext (λ m. rw (apart m) (grind arith))

-- the two runs, by the words that keep the members
first_run : replies (nobody 2 3) (map asked run1) ≡ map told run1
unfolding from total
first_run =
    let h1 = put (λ _. false) (λ _ _. 0) 5 (lit< tt) empty in
    let h2 = put _ _ 70 (lit< tt) h1 in
    let h3 = put _ _ 5000 (lit< tt) h2 in
    let h4 = gone _ _ 70 (lit< tt) h3 in
    rw (
      counted _ _ 2 3 Done h1 refl,
      counted _ _ 2 3 Done h2 refl,
      counted _ _ 2 3 Done h3 refl,
      counted _ _ 2 3 (Refused 4) (put _ _ 200 (lit< tt) h3) refl,
      counted _ _ 2 3 (Refused 3) (put _ _ 9000 (lit< tt) h3) refl,
      counted _ _ 2 3 Done (put _ _ 200 (lit< tt) h4) refl,
      walk,
    )

second_run : replies (nobody 1 1) (map asked run2) ≡ map told run2
unfolding from total
second_run =
    let e = counted _ _ 1 1 Done (put (λ _. false) (λ _ _. 0) 0 (lit< tt) empty) refl in
    rw (e, members_stay (λ m. false || eqb m 0), e, walk_0)

pub returns : goal.returns
returns c = ((refl, refl, refl), ((refl, refl, refl), ((refl, refl, refl), (refl, (refl, (first_run, (emptied, (second_run, tt))))))))
