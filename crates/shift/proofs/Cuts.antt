-- A text is cut at its first space, in one way only.
use Rattle.std.proofs.Common.{◌≡◌, ℕ, ◌-◌, ◌<◌, List, [], ◌∷◌, ◌++◌, length, get_or, take, drop, refl, arith}
use Rattle.std.proofs.lemmas.Slice.{first_rest}
use Rattle.shift.specs.Fields.{space, Bare, Begins, Cut, Spaced}

-- what comes after a first space, as the code takes it
pub spaced : (text field rest : List ℕ) → 0 < length text → get_or text 0 0 ≡ space → Begins (take (length text - 1) (drop 1 text)) field rest → Spaced text field rest
spaced text field rest l e b = let h = first_rest text 0 l in (take (length text - 1) (drop 1 text), (cc), b)

pub one_cut : (a b x y : List ℕ) → Bare a → Bare b → Cut x → Cut y → a ++ x ≡ b ++ y → (a ≡ b) × (x ≡ y)
one_cut [] [] x y p q s t e = (refl, e)
one_cut [] (d ∷ b) x y p q s t e = grind arith
one_cut (c ∷ a) [] x y p q s t e = grind arith
one_cut (c ∷ a) (d ∷ b) x y p q s t e = grind (arith, one_cut a b x y)
