-- The words of a band.
use Rattle.std.specs.Prelude.{ℕ, ◌-◌, ◌^◌, cond, ◌&&◌, ◌==◌, nat_lt}

-- every block of a group is announced
abbrev pub announced : ℕ → ℕ
announced i = cond (nat_lt i 64) (2 ^ 64 - 1) 0

-- only one group has cells
abbrev pub banded : ℕ → ℕ → ℕ → ℕ → ℕ
banded group word i j = cond (i == group && (nat_lt i 64 && nat_lt j 64)) word 0
