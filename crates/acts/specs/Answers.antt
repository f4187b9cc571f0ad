-- The answers of a walk to a list of nexts and seeks.
use Rattle.std.specs.Prelude.{ℕ, List, [], ◌∷◌, Some, None, Option}
use Rattle.acts.specs.declared.Action.{Action}
use Rattle.acts.specs.declared.Action.TheVariants.{Next, Seek}

abbrev pub first : {I : Type 0} → List I → Option I
first [] = None
first (x ∷ xs) = Some x

abbrev pub rest : {I : Type 0} → List I → List I
rest [] = []
rest (x ∷ xs) = xs

-- what a walk over xs answers to a list of actions, where ys are left and a seek to s leaves cut s xs
abbrev pub answers : {I : Type 0} → (ℕ → List I → List I) → List I → List I → List Action → List (Option I)
answers cut xs ys [] = []
answers cut xs ys (Next ∷ acts) = first ys ∷ answers cut xs (rest ys) acts
answers cut xs ys (Seek s ∷ acts) = answers cut xs (cut s xs) acts
