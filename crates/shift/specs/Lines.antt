-- What a line of a shift file says, and what is expected where it says no step.
use Rattle.std.specs.Prelude.{◌≡◌, ℕ, ◌⊎◌, List, [], ◌∷◌, ◌++◌, codes, ◌≢◌}
use Rattle.shift.specs.Fields.{Amiss, Begins, Cut, Lists}
use Rattle.shift.specs.Words.{spelling, due}
use Rattle.shift.specs.declared.Expected.{Expected}
use Rattle.shift.specs.declared.Expected.TheVariants.{Keyword, Number, TooLarge, End}
use Rattle.shift.specs.declared.Step.{Step}
use Rattle.shift.specs.declared.Step.TheVariants.{Nothing, Pools, Machine, Mark, Block, Unmark, Ask, Cells, Shared, Lacking}
use Rattle.shift.specs.declared.words.Word.{Word}

-- a line with nothing to do: an empty one, or a note
abbrev pub Idle : List ℕ → Type 0
Idle line = (line ≡ []) ⊎ ((note : List ℕ) × (line ≡ codes "#" ++ note))

-- the line is the keyword and the numbers, each after one space
abbrev pub Spelled : List ℕ → List ℕ → List ℕ → Type 0
Spelled keyword ns line = (list : List ℕ) × (line ≡ keyword ++ list) × Lists ns list

-- the line says the step
abbrev pub Says : List ℕ → Step → Type 0
Says line Nothing = Idle line
Says line (Pools groups blocks) = Spelled (codes "pools") (groups ∷ blocks ∷ []) line
Says line (Machine m) = Spelled (codes "machine") (m ∷ []) line
Says line (Mark n) = Spelled (codes "mark") (n ∷ []) line
Says line (Block start cells) = Spelled (codes "block") (start ∷ cells ∷ []) line
Says line (Unmark n) = Spelled (codes "unmark") (n ∷ []) line
Says line (Ask n) = Spelled (codes "ask") (n ∷ []) line
Says line (Cells n) = Spelled (codes "cells") (n ∷ []) line
Says line (Shared n) = Spelled (codes "shared") (n ∷ []) line
Says line (Lacking n) = Spelled (codes "lacking") (n ∷ []) line

-- there is something to do, and the line's first field is no keyword
abbrev pub Unknown : List ℕ → Type 0
Unknown line =
    (Idle line → ⊥)
    × ((field : List ℕ) × (rest : List ℕ) × Begins line field rest × ((w : Word) → field ≢ spelling w))

-- what is expected where the line goes wrong
abbrev pub Fault : List ℕ → Expected → Type 0
Fault line e =
    (Unknown line × (e ≡ Keyword))
    ⊎ ((w : Word) × (list : List ℕ) × (line ≡ spelling w ++ list) × Cut list × Amiss (due w) list e)

-- what a user is told
abbrev pub wording : Expected → List ℕ
wording Keyword = codes "pools, machine, mark, block, unmark, ask, cells, shared or lacking"
wording Number = codes "one space and a number of 1 to 20 decimal digits"
wording TooLarge = codes "a number of at most 18446744073709551615"
wording End = codes "nothing more on the line"
