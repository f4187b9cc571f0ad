-- How digits write a number.
use Rattle.std.specs.Prelude.{◌≡◌, ℕ, ◌+◌, ◌-◌, ◌*◌, ◌^◌, ◌<◌, ◌≤◌, ◌⊎◌, List, length, fold}
use Rattle.std.specs.List.{AllByRecursion}
use Rattle.shift.specs.declared.Expected.{Expected}
use Rattle.shift.specs.declared.Expected.TheVariants.{Number, TooLarge}

-- the byte of a decimal digit, '0' to '9'
abbrev pub Digit : ℕ → Type 0
Digit c = (48 ≤ c) × (c ≤ 57)

-- 1 to 20 decimal digits
pub record Decimal (ds : List ℕ) : Type 0 where
  pub digits : AllByRecursion Digit ds
  pub some : 1 ≤ length ds
  pub few : length ds ≤ 20

-- the number that digits write
abbrev pub value : List ℕ → ℕ
value ds = fold (λ n c. n * 10 + (c - 48)) 0 ds

-- the digits write the number n, which has 64 bits at most
abbrev pub Writes : List ℕ → ℕ → Type 0
Writes ds n = Decimal ds × (value ds ≡ n) × (n < 2 ^ 64)

-- what is expected in place of a field that writes no such number
abbrev pub Unfit : List ℕ → Expected → Type 0
Unfit field e =
    ((Decimal field → ⊥) × (e ≡ Number))
    ⊎ (Decimal field × (2 ^ 64 ≤ value field) × (e ≡ TooLarge))
