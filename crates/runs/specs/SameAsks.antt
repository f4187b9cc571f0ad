-- When two lists ask the same: operands and piles are compared by their members alone, whatever their kind and masks.
use Rattle.std.specs.Prelude.{◌≡◌, ℕ, Bool, List, [], ◌∷◌}
use Rattle.roll.specs.Merges.{Unite, Intersect}
use Rattle.acts.specs.declared.Action.{Action}
use Rattle.runs.specs.Asks.{Ask, Merged, PileHas, PileIndices}

pub data SameAsk : Ask → Ask → Type 0 where
  itself : (a : Ask) → SameAsk a a
  unite : (X Y : ℕ → Bool) → ((n : ℕ) → X n ≡ Y n) → SameAsk (Merged (Unite X)) (Merged (Unite Y))
  intersect : (X Y : ℕ → Bool) → ((n : ℕ) → X n ≡ Y n) → SameAsk (Merged (Intersect X)) (Merged (Intersect Y))
  pile_has : (F G : (ℕ → Bool) → ℕ → Bool) (n : ℕ) → ((M : ℕ → Bool) (m : ℕ) → F M m ≡ G M m) → SameAsk (PileHas F n) (PileHas G n)
  pile_indices : (F G : (ℕ → Bool) → ℕ → Bool) (acts : List Action) → ((M : ℕ → Bool) (m : ℕ) → F M m ≡ G M m) → SameAsk (PileIndices F acts) (PileIndices G acts)

-- ask by ask
pub data SameAsks : List Ask → List Ask → Type 0 where
  none : SameAsks [] []
  more : (a b : Ask) (xs ys : List Ask) → SameAsk a b → SameAsks xs ys → SameAsks (a ∷ xs) (b ∷ ys)
