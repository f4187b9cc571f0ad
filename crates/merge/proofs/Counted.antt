-- What a union adds to a tree, group by group.
use Rattle.std.proofs.Common.{◌≡◌, ℕ, ◌+◌, ◌-◌, ◌^◌, ◌<◌, ◌≤◌, min, ap, ◌∙◌, arith}
use lib.Count.{ones}
use Rattle.std.proofs.lemmas.Bool.Decides.{nat_tests}
use Rattle.bits.specs.Bit.{bit}
use Rattle.bits.specs.Sums.{total, some}
use Rattle.bits.proofs.Laws.{bit_lt}
use Rattle.bits.proofs.Ones.{ones_total, ones_some}
use Rattle.bits.proofs.Totals.{total_same, total_sum, total_le}
use Rattle.tree.specs.declared.Tree.{Tree}
use Rattle.tree.specs.Trees.{node, word, row, group_count, block_count, Sound}
use Rattle.merge.specs.Merged.{united, row_in, groups_in, blocks_in}
use Rattle.merge.proofs.Queue.{left_of}
use Rattle.merge.proofs.Union.{some_or}

-- the groups and the blocks that the union has more, at group a
abbrev pub adds_group : Tree → (ℕ → ℕ → ℕ) → ℕ → ℕ
adds_group s x a = some (row_in (united (word s) x) a) - some (row s a)

abbrev pub adds_blocks : Tree → (ℕ → ℕ → ℕ) → ℕ → ℕ
adds_blocks s x a = row_in (united (word s) x) a - row s a

module _ (s : Tree) (t : Sound s) where
  -- a group has as many blocks as its mask has one bits
  pub row_ones : (i here : ℕ) → here ≡ (node s i).mask → ones here ≡ row s i
  row_ones i here e =
      ap ones e ∙ ones_total 64 (node s i).mask (t.0.fits1 i)
      ∙ total_same (bit (node s i).mask) (λ j. some (word s i j)) 64 (λ j l. t.0.middle i j l ∙ t.1.words_full i j)

  pub row_some : (i here : ℕ) → here ≡ (node s i).mask → some here ≡ some (row s i)
  row_some i here e = omega (arith, ones_some 64 here (omega (arith, e, t.0.fits1 i)), row_ones i here e)

  -- the blocks that are new
  pub new_row : (x : ℕ → ℕ → ℕ) (i here new : ℕ) → here ≡ (node s i).mask → new < 2 ^ 64 → ((j : ℕ) → j < 64 → bit new j ≡ min (some (x i j)) (1 - bit here j)) → ones new + row s i ≡ row_in (united (word s) x) i
  new_row x i here new e f h =
      let b = total_sum (bit new) (λ j. some (word s i j)) (λ j. some (united (word s) x i j)) 64
      (λ j l. omega (arith, h j l, ap (λ m. bit m j) e, t.0.middle i j l, t.1.words_full i j, some_or (word s i j) (x i j))) in
      omega (arith, ones_total 64 new f, b)

-- a queue of all groups that x's top word announces has all that the union adds
module _ (s : Tree) (x : ℕ → ℕ → ℕ) (top : ℕ) (covers : (i j : ℕ) → 0 < x i j → bit top i ≡ 1) where
  row_le : (a : ℕ) → row s a ≤ row_in (united (word s) x) a
  row_le a = total_le (λ j. some (word s a j)) (λ j. some (united (word s) x a j)) 64 (λ j _. omega (arith, some_or (word s a j) (x a j)))

  same_row : (a : ℕ) → bit top a ≡ 0 → row_in (united (word s) x) a ≡ row s a
  same_row a z = total_same (λ j. some (united (word s) x a j)) (λ j. some (word s a j)) 64 (λ j _. grind (arith, some_or (word s a j) (x a j), covers a j))

  pub groups_start : total (left_of top (adds_group s x)) 64 + group_count s ≡ groups_in (united (word s) x)
  groups_start = total_sum (left_of top (adds_group s x)) (λ a. some (row s a)) (λ a. some (row_in (united (word s) x) a)) 64 (λ a _. grind (arith, nat_tests, row_le a, same_row a, bit_lt top a))

  pub blocks_start : total (left_of top (adds_blocks s x)) 64 + block_count s ≡ blocks_in (united (word s) x)
  blocks_start = total_sum (left_of top (adds_blocks s x)) (row s) (row_in (united (word s) x)) 64 (λ a _. grind (arith, nat_tests, row_le a, same_row a, bit_lt top a))
