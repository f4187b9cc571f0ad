-- The words of a union: how many there are, and that there is room for each on the way.
use Rattle.std.proofs.Common.{◌≡◌, ℕ, ◌-◌, ◌<◌, ◌≤◌, max, Bool, false, cond, ap, arith}
use lib.Bits.{bit_or, or_add_and, and_le_l, and_le_r}
use Rattle.std.proofs.lemmas.Bool.Decides.{nat_tests}
use Rattle.bits.specs.Sums.{some}
use Rattle.bits.proofs.Totals.{total_same, totals_same, total_le, total_gap, totals_gap, total_at, total_most}
use Rattle.roll.specs.Roll.{Done, refuses}
use Rattle.tree.specs.declared.Tree.{Tree}
use Rattle.tree.specs.Trees.{slots1, slots2, word, row, Sound}
use Rattle.tree.specs.Steps.{room}
use Rattle.tree.proofs.Room.{room_done}
use Rattle.merge.specs.Merged.{Merged, united, row_in, groups_in, blocks_in, verdict}

-- a union is above 0 where one of the two is
pub some_or : (a b : ℕ) → some (bit_or a b) ≡ max (some a) (some b)
some_or a b = omega (arith, or_add_and a b, and_le_l a b, and_le_r a b)

-- there are 64 groups and 4,096 blocks
pub groups_most : (w : ℕ → ℕ → ℕ) → groups_in w ≤ 64
groups_most w = omega (arith, total_most (λ i. some (row_in w i)) 64 1 (λ i _. omega arith))

pub blocks_most : (w : ℕ → ℕ → ℕ) → blocks_in w ≤ 4096
blocks_most w = omega (arith, total_most (row_in w) 64 64 (λ i _. omega (arith, total_most (λ j. some (w i j)) 64 1 (λ j _. omega arith))))

-- the union with x fits both pools
pub record Fits (x : ℕ → ℕ → ℕ) (s : Tree) : Type 0 where
  pub groups : groups_in (united (word s) x) ≤ slots1 s
  pub blocks : blocks_in (united (word s) x) ≤ slots2 s

pub accepted : (s : Tree) (x : ℕ → ℕ → ℕ) → Done ≡ verdict s x → Fits x s
accepted s x e = record { groups = grind (arith, nat_tests); blocks = grind (arith, nat_tests) }

-- a tree that has a part of x already has the same union with x
same_some : (c : Bool) (u u' y : ℕ) → u' ≡ cond c (bit_or u y) u → some (bit_or u' y) ≡ some (bit_or u y)
same_some c u u' y e = grind (arith, nat_tests, some_or u' y, some_or u y)

pub still_fits : {x : ℕ → ℕ → ℕ} {pick : ℕ → ℕ → Bool} {s s' : Tree} → Merged bit_or pick x s s' → Fits x s → Fits x s'
still_fits {x} {pick} {s} {s'} m h =
    let e : (i j : ℕ) → some (united (word s') x i j) ≡ some (united (word s) x i j) = λ i j. same_some (pick i j) _ _ _ (m.words i j) in
    record {
      groups = omega (arith, total_same (λ i. some (row_in (united (word s') x) i)) (λ i. some (row_in (united (word s) x) i)) 64 (λ i _. ap some (total_same _ _ 64 (λ j _. e i j))), h.groups, ap (λ n. n - 1) m.room1);
      blocks = omega (arith, totals_same (λ i j. some (united (word s') x i j)) (λ i j. some (united (word s) x i j)) 64 64 (λ i j _ _. e i j), h.blocks, ap (λ n. n - 1) m.room2);
    }

-- and there is room for each word of x
pub has_room : (x : ℕ → ℕ → ℕ) (s : Tree) → Sound s → (i j : ℕ) → i < 64 → j < 64 → 0 < x i j → Fits x s → refuses (room s i j) ≡ false
has_room x s t i j li lj p h =
    let u = united (word s) x in
    let le : (a c : ℕ) → some (word s a c) ≤ some (u a c) = λ a c. omega (arith, some_or (word s a c) (x a c)) in
    let rows : (a : ℕ) → row s a ≤ row_in u a = λ a. total_le (λ c. some (word s a c)) (λ c. some (u a c)) 64 (λ c _. le a c) in
    let here : 0 < some (u i j) = omega (arith, some_or (word s i j) (x i j)) in
    let full : 0 < row_in u i = omega (arith, total_at (λ c. some (u i c)) 64 j lj) in
    let gg = total_gap (λ a. some (row s a)) (λ a. some (row_in u a)) 64 i li (λ a _. omega (arith, rows a)) in
    let bb = totals_gap (λ a c. some (word s a c)) (λ a c. some (u a c)) 64 64 i j li lj (λ a c _ _. le a c) in
    ap refuses (room_done s t i j (omega arith) (omega arith))
