-- The refusals: the number and the words of each.
use Rattle.std.specs.Prelude.{◌≡◌, ℕ, List, codes, Ok, Err, Result, ◌≢◌}
use Rattle.roll.specs.declared.Refusal.{Refusal}
use Rattle.roll.specs.declared.UnknownNumber.{UnknownNumber}
use Rattle.roll.specs.declared.Refusal.TheVariants.{OutOfRange, OffBoundary, GroupsFull, BlocksFull, NoElement}

abbrev pub number : Refusal → ℕ
number OutOfRange = 1
number OffBoundary = 2
number GroupsFull = 3
number BlocksFull = 4
number NoElement = 5

abbrev pub phrase : Refusal → List ℕ
phrase OutOfRange = codes "index or start out of range"
phrase OffBoundary = codes "start is no multiple of 64"
phrase GroupsFull = codes "every slot for groups is in use"
phrase BlocksFull = codes "every slot for blocks is in use"
phrase NoElement = codes "a pool needs at least one element"

-- the number of a change: 0, which is no refusal's, where it was made
abbrev pub code_of : Result (Unit {0}) Refusal → ℕ
code_of (Ok u) = 0
code_of (Err e) = number e

-- the refusal that has the number, or the number, which none has
abbrev pub Names : ℕ → Result Refusal UnknownNumber → Type 0
Names n (Ok r) = number r ≡ n
Names n (Err e) = ((r : Refusal) → number r ≢ n) × (e.0 ≡ n)
