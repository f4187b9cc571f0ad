-- What may be asked of a set, and what the roll of members replies.
use Rattle.std.specs.Prelude.{ℕ, ◌-◌, Bool, List, [], ◌∷◌, length, Option}
use Rattle.roll.specs.Roll.{Roll, Call, Answer, Told, nobody, answer, after}
use Rattle.roll.specs.Merges.{Merge, merge_answer, merge_after}
use Rattle.walks.specs.declared.block_iter.DataBlock.{DataBlock}
use Rattle.walks.specs.Indices.{listed, from}
use Rattle.acts.specs.declared.Action.{Action}
use Rattle.acts.specs.Answers.{answers}
use Rattle.acts.specs.Blocks.{filled, reaching}

pub data Ask : Type 0 where
  -- a call of the set itself
  Ordered : Call → Ask
  -- a call that takes an operand
  Merged : Merge → Ask
  -- a walk over the set's indices, with any nexts and seeks
  Indices : List Action → Ask
  -- a walk over its nonempty blocks
  Blocks : List Action → Ask
  -- whether a pile of combinations that the set stands in has an index, by what the pile makes of the set's members
  PileHas : ((ℕ → Bool) → ℕ → Bool) → ℕ → Ask
  -- a walk over the indices of such a pile
  PileIndices : ((ℕ → Bool) → ℕ → Bool) → List Action → Ask

-- an answer of the roll, or what a walk handed out at each next
pub data Reply : Type 0 where
  Said : Answer → Reply
  Listed : List (Option ℕ) → Reply
  Filled : List (Option DataBlock) → Reply

-- what new walks over the indices and over the nonempty blocks of M answer to each next
abbrev pub index_answers : (ℕ → Bool) → List Action → List (Option ℕ)
index_answers M acts = answers from (listed M) (listed M) acts

abbrev pub block_answers : (ℕ → Bool) → List Action → List (Option DataBlock)
block_answers M acts = answers reaching (filled M) (filled M) acts

abbrev pub reply : Roll → Ask → Reply
reply r (Ordered c) = Said (answer r c)
reply r (Merged c) = Said (merge_answer r c)
reply r (Indices acts) = Listed (index_answers r.has acts)
reply r (Blocks acts) = Filled (block_answers r.has acts)
reply r (PileHas fill n) = Said (Told (fill r.has n))
reply r (PileIndices fill acts) = Listed (index_answers (fill r.has) acts)

-- only the calls of the set change the roll
abbrev pub next : Roll → Ask → Roll
next r (Ordered c) = after r c
next r (Merged c) = merge_after r c
next r (Indices acts) = r
next r (Blocks acts) = r
next r (PileHas fill n) = r
next r (PileIndices fill acts) = r

-- the replies to a list, each by the roll that the ones before it leave
abbrev pub replies : Roll → List Ask → List Reply
replies r [] = []
replies r (a ∷ rest) = reply r a ∷ replies (next r a) rest

-- the roll that a list leaves
abbrev pub leaves : Roll → List Ask → Roll
leaves r [] = r
leaves r (a ∷ rest) = leaves (next r a) rest

-- the roll of a new set over two slices: slot 0 of each is never taken
abbrev pub new_roll : {A B : Type 0} → List A → List B → Roll
new_roll upper lower = nobody (length upper - 1) (length lower - 1)
