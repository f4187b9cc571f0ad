-- The calls that take an operand, by its members: what each answers and which members it leaves.
use Rattle.std.specs.Prelude.{ℕ, Bool, cond, ◌&&◌, ◌||◌}
use Rattle.roll.specs.Roll.{Roll, Answer, Done, fitting, refuses}

pub data Merge : Type 0 where
  Unite : (ℕ → Bool) → Merge
  Intersect : (ℕ → Bool) → Merge

-- the members that it makes of M where nothing refuses it
abbrev pub joint : (ℕ → Bool) → Merge → ℕ → Bool
joint M (Unite X) m = M m || X m
joint M (Intersect X) m = M m && X m

abbrev pub merge_answer : Roll → Merge → Answer
merge_answer r (Unite X) = fitting r.P r.Q (joint r.has (Unite X))
merge_answer r (Intersect X) = Done

-- after a refusal the roll stays; else the merge has made its members
abbrev pub merge_after : Roll → Merge → Roll
merge_after r c = cond (refuses (merge_answer r c)) r (record { has = joint r.has c; P = r.P; Q = r.Q })
