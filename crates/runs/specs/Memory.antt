-- When a call is refused for memory: exactly where the members that it would leave do not fit the pools.
use Rattle.std.specs.Prelude.{◌≡◌, ℕ, Bool, false, not, ◌&&◌, ◌||◌, ◌==◌, nat_le}
use Rattle.roll.specs.Members.{groups, blocks}
use Rattle.roll.specs.Roll.{Roll, Answer, Done, Told, Counted, Refused}
use Rattle.runs.specs.Asks.{Ask, Reply, Said, Listed, Filled, next}

-- whether P slots for groups and Q slots for blocks are enough for the members M
abbrev pub fits : ℕ → ℕ → (ℕ → Bool) → Bool
fits p q M = nat_le (groups M) p && nat_le (blocks M) q

-- refusals 3 and 4 are those for memory
abbrev pub no_room : Answer → Bool
no_room Done = false
no_room (Told b) = false
no_room (Counted g b) = false
no_room (Refused n) = n == 3 || n == 4

abbrev pub for_memory : Reply → Bool
for_memory (Said a) = no_room a
for_memory (Listed xs) = false
for_memory (Filled bs) = false

-- the members that an ask would leave of M were there a slot for each of the 64 groups and the 4,096 blocks; M itself
-- where it is refused for another reason
abbrev pub would : (ℕ → Bool) → Ask → ℕ → Bool
would M ask = (next (record { has = M; P = 64; Q = 4096 }) ask).has

-- a reply to an ask of a set with the roll r is a refusal for memory exactly where what the ask would leave does not fit
abbrev pub MemoryRule : Roll → Ask → Reply → Type 0
MemoryRule r ask said = for_memory said ≡ not (fits r.P r.Q (would r.has ask))
