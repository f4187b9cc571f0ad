-- The keywords of a shift file.
use Rattle.std.specs.Prelude.{◌≡◌, ℕ, List, codes, Result, MatchResult, ◌≢◌}
use Rattle.shift.specs.declared.Expected.{Expected}
use Rattle.shift.specs.declared.Expected.TheVariants.{Keyword}
use Rattle.shift.specs.declared.words.Word.{Word}
use Rattle.shift.specs.declared.words.Word.TheVariants.{Pools, Machine, Mark, Block, Unmark, Ask, Cells, Shared, Lacking}

-- the bytes of a keyword
abbrev pub spelling : Word → List ℕ
spelling Pools = codes "pools"
spelling Machine = codes "machine"
spelling Mark = codes "mark"
spelling Block = codes "block"
spelling Unmark = codes "unmark"
spelling Ask = codes "ask"
spelling Cells = codes "cells"
spelling Shared = codes "shared"
spelling Lacking = codes "lacking"

-- the result is the keyword that the field spells; where it spells none, a keyword is expected
abbrev pub Named : List ℕ → Result Word Expected → Type 0
Named field r =
    MatchResult r (λ w. field ≡ spelling w) (λ e. ((w : Word) → field ≢ spelling w) × (e ≡ Keyword))

-- how many numbers follow it
abbrev pub due : Word → ℕ
due Pools = 2
due Machine = 1
due Mark = 1
due Block = 2
due Unmark = 1
due Ask = 1
due Cells = 1
due Shared = 1
due Lacking = 1
