-- Where an index lies: 64 groups of 64 blocks of 64 bits.
use Rattle.std.specs.Prelude.{ℕ, ◌/◌, ◌%◌}

-- one more than the largest index, 64 * 64 * 64
abbrev pub capacity : ℕ
capacity = 262144

-- how many indices a group and a block have
abbrev pub group_size : ℕ
group_size = 4096

abbrev pub block_size : ℕ
block_size = 64

-- the group of index n, the place of its block in the group, and its bit in the block
abbrev pub group : ℕ → ℕ
group n = n / group_size

abbrev pub place : ℕ → ℕ
place n = n % group_size / block_size

abbrev pub offset : ℕ → ℕ
offset n = n % block_size
