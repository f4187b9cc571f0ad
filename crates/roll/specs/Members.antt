-- A set of indices as a test, and how many of its groups and blocks are not empty.
use Rattle.std.specs.Prelude.{ℕ, zero, suc, ◌+◌, ◌*◌, Bool, false, cond, ◌&&◌, ◌||◌, ◌==◌, nat_lt}
use Rattle.bits.specs.Bit.{bit}
use Rattle.bits.specs.Sums.{total}
use Rattle.bits.specs.Indices.{capacity, group_size, block_size, group, place, offset}

-- 1 for true, 0 for false
abbrev pub one : Bool → ℕ
one b = cond b 1 0

-- whether M has one of the n indices from a on
unfoldable pub any : (ℕ → Bool) → ℕ → ℕ → Bool
any M a zero = false
any M a (suc n) = M (a + n) || any M a n

-- how many of the 64 groups M has an index in
unfoldable pub groups : (ℕ → Bool) → ℕ
groups M = total (λ i. one (any M (group_size * i) group_size)) 64

-- how many of the 64 * 64 blocks M has an index in
unfoldable pub blocks : (ℕ → Bool) → ℕ
blocks M = total (λ i. total (λ j. one (any M (group_size * i + block_size * j) block_size)) 64) 64

-- the members of 64 * 64 words: index n where bit k of word (i, j) is 1, with n in group i at place j and bit k
abbrev pub members : (ℕ → ℕ → ℕ) → ℕ → Bool
members word n = nat_lt n capacity && bit (word (group n) (place n)) (offset n) == 1
