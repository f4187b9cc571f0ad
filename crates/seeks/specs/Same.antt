-- Walks over the same members give the same answers.
use Rattle.std.specs.Prelude.{◌≡◌, ℕ, Bool, List}
use Rattle.acts.specs.declared.Action.{Action}
use Rattle.acts.specs.Answers.{answers}
use Rattle.walks.specs.Indices.{listed, from}

abbrev pub SameAnswers : Type 0
SameAnswers = (p q : ℕ → Bool) → ((n : ℕ) → p n ≡ q n) → (acts : List Action) → answers from (listed p) (listed p) acts ≡ answers from (listed q) (listed q) acts
