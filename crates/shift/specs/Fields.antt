-- How spaces cut a line into fields, and how fields list numbers.
use Rattle.std.specs.Prelude.{◌≡◌, ℕ, zero, suc, ◌⊎◌, List, [], ◌∷◌, ◌++◌, ◌≢◌}
use Rattle.std.specs.List.{AllByRecursion}
use Rattle.shift.specs.Numbers.{Unfit, Writes}
use Rattle.shift.specs.declared.Expected.{Expected}
use Rattle.shift.specs.declared.Expected.TheVariants.{Number, End}

-- the byte of a space
abbrev pub space : ℕ
space = 32

-- no byte of the field is a space
abbrev pub Bare : List ℕ → Type 0
Bare field = AllByRecursion (λ c. c ≢ space) field

-- a field ends here: at a space, or at the line's end
abbrev pub Cut : List ℕ → Type 0
Cut [] = Unit {0}
Cut (c ∷ rest) = c ≡ space

-- the text's first field, and what comes after it
pub record Begins (text field rest : List ℕ) : Type 0 where
  pub whole : text ≡ field ++ rest
  pub bare : Bare field
  pub ends : Cut rest

-- the text is a space, a field and what comes after it
abbrev pub Spaced : List ℕ → List ℕ → List ℕ → Type 0
Spaced text field rest = (after : List ℕ) × (text ≡ space ∷ after) × Begins after field rest

-- the text's next number, after one space, and what comes after it
abbrev pub Next : List ℕ → ℕ → List ℕ → Type 0
Next text n rest = (field : List ℕ) × Spaced text field rest × Writes field n

-- the text lists the numbers, each after one space, and nothing more
abbrev pub Lists : List ℕ → List ℕ → Type 0
Lists [] text = text ≡ []
Lists (n ∷ ns) text =
    (ds : List ℕ) × (rest : List ℕ) × (text ≡ space ∷ (ds ++ rest)) × Writes ds n × Lists ns rest

-- what is expected where the text, in which so many numbers are due, goes wrong:
-- something stands after the last; no space stands before the next; its field is unfit; or a later one is
abbrev pub Amiss : ℕ → List ℕ → Expected → Type 0
Amiss zero text e = (text ≢ []) × (e ≡ End)
Amiss (suc k) text e =
    (((after : List ℕ) → text ≢ space ∷ after) × (e ≡ Number))
    ⊎ ((field : List ℕ) × (rest : List ℕ) × Spaced text field rest
    × (Unfit field e ⊎ ((n : ℕ) × Writes field n × Amiss k rest e)))
