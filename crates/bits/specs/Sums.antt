-- Sums over the first n numbers, and tests that are counted: 1 for yes, 0 for no.
use Rattle.std.specs.Prelude.{ℕ, zero, suc, ◌+◌, ◌-◌, min}

-- f 0 + .. + f (n - 1)
unfoldable pub total : (ℕ → ℕ) → ℕ → ℕ
total f zero = 0
total f (suc n) = f n + total f n

-- 1 for a number above 0, else 0
abbrev pub some : ℕ → ℕ
some x = min 1 x

-- 1 where the two are equal, else 0
abbrev pub same : ℕ → ℕ → ℕ
same k x = 1 - ((k - x) + (x - k))
