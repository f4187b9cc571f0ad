-- The roll of members: what each call answers and which members it leaves, for a plain set of indices.
use Rattle.std.specs.Prelude.{ℕ, ◌+◌, ◌-◌, ◌%◌, Bool, true, false, cond, not, ◌&&◌, ◌||◌, ◌==◌, nat_le, nat_lt}
use Rattle.bits.specs.Bit.{bit}
use Rattle.bits.specs.Indices.{capacity, block_size}
use Rattle.roll.specs.Members.{groups, blocks}

-- the members, and how many slots each pool has beside slot 0: P for groups, Q for blocks
pub record Roll : Type 0 where
  pub has : ℕ → Bool
  pub P : ℕ
  pub Q : ℕ

pub data Call : Type 0 where
  Insert : ℕ → Call
  InsertBlock : ℕ → ℕ → Call
  Remove : ℕ → Call
  Contains : ℕ → Call
  Used : Call

pub data Answer : Type 0 where
  Done : Answer
  Told : Bool → Answer
  Counted : ℕ → ℕ → Answer
  Refused : ℕ → Answer

-- a roll with no member
abbrev pub nobody : ℕ → ℕ → Roll
nobody p q = record { has = λ _. false; P = p; Q = q }

-- the indices of a block that starts at s: s + k for each one bit k of w
abbrev pub in_block : ℕ → ℕ → ℕ → Bool
in_block s w m = nat_le s m && (nat_lt m (s + block_size) && bit w (m - s) == 1)

-- the members that a call makes of M where nothing refuses it
abbrev pub made : (ℕ → Bool) → Call → ℕ → Bool
made M (Insert n) m = M m || m == n
made M (InsertBlock s w) m = M m || in_block s w m
made M (Remove n) m = M m && not (m == n)
made M (Contains n) m = M m
made M Used m = M m

-- refused where M has more nonempty groups than P, and else where it has more nonempty blocks than Q
abbrev pub fitting : ℕ → ℕ → (ℕ → Bool) → Answer
fitting p q M = cond (nat_le (groups M) p) (cond (nat_le (blocks M) q) Done (Refused 4)) (Refused 3)

-- a block insert takes starts below this one, 262,080: every block but the last
abbrev pub starts_end : ℕ
starts_end = capacity - block_size

abbrev pub answer : Roll → Call → Answer
answer r (Insert n) = cond (nat_lt n capacity) (fitting r.P r.Q (made r.has (Insert n))) (Refused 1)
answer r (InsertBlock s w) = cond (w == 0) Done (cond (s % block_size == 0) (cond (nat_lt s starts_end) (fitting r.P r.Q (made r.has (InsertBlock s w))) (Refused 1)) (Refused 2))
answer r (Remove n) = cond (nat_lt n capacity) (Told (r.has n)) (Refused 1)
answer r (Contains n) = Told (r.has n)
answer r Used = Counted (groups r.has) (blocks r.has)

abbrev pub refuses : Answer → Bool
refuses Done = false
refuses (Told b) = false
refuses (Counted g b) = false
refuses (Refused n) = true

-- after a refusal the roll stays; else the call has made its members
abbrev pub after : Roll → Call → Roll
after r c = cond (refuses (answer r c)) r (record { has = made r.has c; P = r.P; Q = r.Q })
