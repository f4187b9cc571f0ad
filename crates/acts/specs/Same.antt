-- Sets with the same members get the same answers.
use Rattle.std.specs.Prelude.{◌≡◌, ℕ, Bool, List}
use Rattle.walks.specs.Indices.{listed, from}
use Rattle.acts.specs.declared.Action.{Action}
use Rattle.acts.specs.Answers.{answers}
use Rattle.acts.specs.Blocks.{filled, reaching}

-- from walks over members, and from walks over the blocks of trusted operands
pub record SameAnswers (p q : ℕ → Bool) (acts : List Action) : Type 0 where
  pub indices : answers from (listed p) (listed p) acts ≡ answers from (listed q) (listed q) acts
  pub blocks : answers reaching (filled p) (filled p) acts ≡ answers reaching (filled q) (filled q) acts
