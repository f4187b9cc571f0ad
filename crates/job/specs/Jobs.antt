-- What a step of a shift asks of the set, and what is reported of it.
use Rattle.std.specs.Prelude.{◌≡◌, Option, Some, None, Result, Ok, Err}
use Rattle.roll.specs.declared.Refusal.{Refusal}
use Rattle.roll.specs.Refusals.{number}
use Rattle.roll.specs.Roll.{Call, Insert, InsertBlock, Remove, Contains, Answer, Done, Told, Refused, answer, after}
use Rattle.bitset.specs.declared.BitSet.{BitSet}
use Rattle.bitset.specs.Sets.{roll_of}
use Rattle.shift.specs.declared.Step.{Step}
use Rattle.shift.specs.declared.Step.TheVariants.{Nothing, Pools, Machine, Mark, Block, Unmark, Ask, Cells, Shared, Lacking}
use Rattle.job.specs.declared.Report.{Report}
use Rattle.job.specs.declared.Report.TheVariants.{Idle, Accepted, Answered}

-- the answer of the set that is passed on, if one is
abbrev pub said : Result Report Refusal → Option Answer
said (Ok Idle) = None
said (Ok Accepted) = Some Done
said (Ok (Answered b)) = Some (Told b)
said (Err e) = Some (Refused (number e))

-- the set's answer to the call is passed on, and the set is as after the call
pub record Calls (call : Call) (r : Result Report Refusal) (s s' : BitSet) : Type 0 where
  pub says : said r ≡ Some (answer (roll_of s) call)
  pub leaves : roll_of s' ≡ after (roll_of s) call

-- nothing is asked of the set
pub record Idles (r : Result Report Refusal) (s s' : BitSet) : Type 0 where
  pub says : r ≡ Ok Idle
  pub leaves : s' ≡ s

-- which call each step is
abbrev pub Acts : Step → Result Report Refusal → BitSet → BitSet → Type 0
Acts Nothing r s s' = Idles r s s'
Acts (Pools p q) r s s' = Idles r s s'
Acts (Machine m) r s s' = Idles r s s'
Acts (Mark n) r s s' = Calls (Insert n) r s s'
Acts (Block b w) r s s' = Calls (InsertBlock b w) r s s'
Acts (Unmark n) r s s' = Calls (Remove n) r s s'
Acts (Ask n) r s s' = Calls (Contains n) r s s'
Acts (Cells n) r s s' = Idles r s s'
Acts (Shared n) r s s' = Idles r s s'
Acts (Lacking n) r s s' = Idles r s s'
