-- A tree merged with the words of an operand.
use Rattle.std.specs.Prelude.{◌≡◌, ℕ, Bool, true, cond, length, ◌==◌, bit_or, nat_le}
use Rattle.bits.specs.Sums.{total, some}
use Rattle.roll.specs.Roll.{Answer, Done, Refused}
use Rattle.tree.specs.declared.Tree.{Tree}
use Rattle.tree.specs.Trees.{slots1, slots2, word, Sound}
use Rattle.tree.specs.Steps.{Lent}

-- the words w, where those that are picked are answers of f on them and x's
abbrev pub merged : (ℕ → ℕ → ℕ) → (ℕ → ℕ → Bool) → (ℕ → ℕ → ℕ) → (ℕ → ℕ → ℕ) → ℕ → ℕ → ℕ
merged f pick x w a b = cond (pick a b) (f (w a b) (x a b)) (w a b)

-- every word is picked, and the words of group i alone
abbrev pub all : ℕ → ℕ → Bool
all a b = true

abbrev pub in_group : ℕ → ℕ → ℕ → Bool
in_group i a b = a == i

-- the tree s became s': its words are the merged ones, it is sound, and its pools are as long and the same
pub record Merged (f : ℕ → ℕ → ℕ) (pick : ℕ → ℕ → Bool) (x : ℕ → ℕ → ℕ) (s s' : Tree) : Type 0 where
  pub sound : Sound s'
  pub words : (a b : ℕ) → word s' a b ≡ merged f pick x (word s) a b
  pub room1 : length s'.level1.blocks.now ≡ length s.level1.blocks.now
  pub room2 : length s'.«data».blocks.now ≡ length s.«data».blocks.now
  pub lent : Lent s s'

-- the words of the union
abbrev pub united : (ℕ → ℕ → ℕ) → (ℕ → ℕ → ℕ) → ℕ → ℕ → ℕ
united w x a b = bit_or (w a b) (x a b)

-- how many words of group i are above 0, in how many groups there is one, and how many there are
abbrev pub row_in : (ℕ → ℕ → ℕ) → ℕ → ℕ
row_in w i = total (λ j. some (w i j)) 64

abbrev pub groups_in : (ℕ → ℕ → ℕ) → ℕ
groups_in w = total (λ i. some (row_in w i)) 64

abbrev pub blocks_in : (ℕ → ℕ → ℕ) → ℕ
blocks_in w = total (λ i. row_in w i) 64

-- whether the union of a tree with the words x fits its pools, or which one is full
abbrev pub verdict : Tree → (ℕ → ℕ → ℕ) → Answer
verdict s x = cond (nat_le (groups_in (united (word s) x)) (slots1 s)) (cond (nat_le (blocks_in (united (word s) x)) (slots2 s)) Done (Refused 4)) (Refused 3)
