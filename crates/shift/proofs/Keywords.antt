-- A line begins with one keyword, or is idle.
use Rattle.std.proofs.Common.{◌≡◌, ℕ, List, ◌++◌, arith}
use Rattle.shift.specs.Fields.{Bare}
use Rattle.shift.specs.Lines.{Idle}
use Rattle.shift.specs.Words.{spelling}
use Rattle.shift.specs.declared.words.Word.{Word}

-- a keyword has no space
pub bare_text : (w : Word) → Bare (spelling w)
bare_text w = grind arith

-- an idle line begins with none
pub idle_none : (line : List ℕ) (w : Word) (list : List ℕ) → line ≡ spelling w ++ list → Idle line → ⊥
idle_none line w list e h = grind arith

-- a line begins with one only
pub one_word : (w v : Word) (s t : List ℕ) → spelling w ++ s ≡ spelling v ++ t → (w ≡ v) × (s ≡ t)
one_word w v s t e = grind arith
