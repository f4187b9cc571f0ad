-- The worked cases as a table, and what each of them says.
use Rattle.std.specs.Prelude.{◌≡◌, ℕ, ◌+◌, ◌*◌, ◌^◌, Bool, true, false, ◌||◌, List, [], ◌∷◌, map, Some, None, ◌==◌, bit_and, bit_or, bit_xor}
use Rattle.bits.specs.Bit.{cut}
use Rattle.bits.specs.Indices.{group, place, offset}
use Rattle.bits.specs.Sums.{total}
use Rattle.roll.specs.Members.{any, one}
use Rattle.roll.specs.Roll.{nobody, Insert, Remove, Done, Told, Refused}
use Rattle.roll.specs.Merges.{Unite}
use Rattle.operands.specs.Combined.{joined}
use Rattle.walks.specs.declared.block_iter.DataBlock.{DataBlock}
use Rattle.acts.specs.declared.Action.TheVariants.{Next, Seek}
use Rattle.acts.specs.Blocks.{announced, word_of}
use Rattle.runs.specs.Asks.{Ask, Reply, Ordered, Merged, Indices, Said, Listed, replies}

-- the numbers of a list, as a test
abbrev pub among : List ℕ → ℕ → Bool
among [] n = false
among (x ∷ xs) n = n == x || among xs n

-- the masks and words of a stored set that has the members M: a mask bit is 1 where there is a member below it
unfoldable pub top_of : (ℕ → Bool) → ℕ
top_of M = total (λ i. one (any M (4096 * i) 4096) * 2 ^ i) 64

unfoldable pub middle_of : (ℕ → Bool) → ℕ → ℕ
middle_of M i = total (λ j. one (any M (4096 * i + 64 * j) 64) * 2 ^ j) 64

abbrev pub data_of : (ℕ → Bool) → ℕ → ℕ → ℕ
data_of M i j = word_of M (4096 * i + 64 * j)

-- the empty block at s
abbrev pub empty_at : ℕ → DataBlock
empty_at s = record { start_index = s; bit_block = 0 }

pub data Case : Type 0 where
  -- index n lies in group i, at place j, at bit k
  Lies : ℕ → ℕ → ℕ → ℕ → Case
  -- the word w without its bits below n is v
  Cuts : ℕ → ℕ → ℕ → Case
  -- a new set with P slots for groups and Q for blocks gives these replies, ask by ask
  Replies : ℕ → ℕ → List (Ask × Reply) → Case
  -- Xor of a stored set with itself: the middle word of group i is v, its blocks are empty ones at these starts, and no index is a member
  XorsItself : List ℕ → ℕ → ℕ → List ℕ → Case

abbrev pub asked : Ask × Reply → Ask
asked p = p.0

abbrev pub told : Ask × Reply → Reply
told p = p.1

-- the operation Xor: or on masks, xor on words
pub record Emptied (M : ℕ → Bool) (i v : ℕ) (starts : List ℕ) : Type 0 where
  pub middle : bit_or (middle_of M i) (middle_of M i) ≡ v
  pub blocks : announced (bit_or (top_of M) (top_of M)) (λ a. bit_or (middle_of M a) (middle_of M a)) (λ a b. bit_xor (data_of M a b) (data_of M a b)) ≡ map empty_at starts
  pub nobody : (n : ℕ) → joined bit_xor n (M n) (M n) ≡ false

abbrev pub Holds : Case → Type 0
Holds (Lies n i j k) = (group n ≡ i) × (place n ≡ j) × (offset n ≡ k)
Holds (Cuts w n v) = cut n w ≡ v
Holds (Replies p q xs) = replies (nobody p q) (map asked xs) ≡ map told xs
Holds (XorsItself ns i v starts) = Emptied (among ns) i v starts

abbrev pub AllHold : List Case → Type 0
AllHold [] = Unit {0}
AllHold (c ∷ cs) = Holds c × AllHold cs

-- calls that answer nothing more than whether they are accepted
abbrev pub accepted : Reply
accepted = Said Done

abbrev pub refused : ℕ → Reply
refused n = Said (Refused n)

-- two slots for groups and three for blocks
abbrev pub run1 : List (Ask × Reply)
run1 =
    (Ordered (Insert 5), accepted)
    ∷ (Ordered (Insert 70), accepted)
    ∷ (Ordered (Insert 5000), accepted)
    ∷ (Ordered (Insert 200), refused 4)
    ∷ (Ordered (Insert 9000), refused 3)
    ∷ (Ordered (Remove 70), Said (Told true))
    ∷ (Ordered (Insert 200), accepted)
    ∷ (Indices (Next ∷ Next ∷ Next ∷ Next ∷ []), Listed (Some 5 ∷ Some 200 ∷ Some 5000 ∷ None ∷ []))
    ∷ (Indices (Seek 200 ∷ Next ∷ Next ∷ Next ∷ []), Listed (Some 200 ∷ Some 5000 ∷ None ∷ []))
    ∷ (Indices (Seek 201 ∷ Next ∷ Next ∷ []), Listed (Some 5000 ∷ None ∷ []))
    ∷ (Indices (Seek 262144 ∷ Next ∷ []), Listed (None ∷ []))
    ∷ []

-- the members of And of {4,096} and {4,097}
abbrev pub shared : ℕ → Bool
shared n = joined bit_and n (n == 4096) (n == 4097)

-- one slot for groups and one for blocks
abbrev pub run2 : List (Ask × Reply)
run2 =
    (Ordered (Insert 0), accepted)
    ∷ (Merged (Unite shared), accepted)
    ∷ (Indices (Next ∷ Next ∷ []), Listed (Some 0 ∷ None ∷ []))
    ∷ []

abbrev pub table : List Case
table =
    Lies 130 0 2 2
    ∷ Lies 70000 17 5 48
    ∷ Lies 262143 63 63 63
    ∷ Cuts 255 3 248
    ∷ Cuts 255 64 0
    ∷ Replies 2 3 run1
    ∷ XorsItself (5 ∷ 70 ∷ []) 0 3 (0 ∷ 64 ∷ [])
    ∷ Replies 1 1 run2
    ∷ []
