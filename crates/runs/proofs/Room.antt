-- The members that a list leaves always fit, and so the rule of memory holds of each further ask.
use Rattle.std.proofs.Common.{◌≡◌, ℕ, ◌%◌, Bool, true, false, cond, not, ◌&&◌, ◌||◌, eqb, ltb, List, [], ◌∷◌, sym, ap, arith}
use Rattle.std.proofs.lemmas.Bool.Decides.{nat_tests}
use Rattle.roll.specs.Roll.{Roll, Answer, Done, Told, Refused, Insert, InsertBlock, Remove, Contains, Used, nobody, in_block, fitting, refuses}
use Rattle.roll.specs.Merges.{Unite, Intersect}
use Rattle.bitset.proofs.Digits.{block_none}
use Rattle.runs.specs.Asks.{Ask, Ordered, Merged, Indices, Blocks, PileHas, PileIndices, reply, next, leaves}
use Rattle.runs.specs.Memory.{fits, no_room, MemoryRule}
use Rattle.runs.proofs.Fewer.{Fewer, groups_most, blocks_most, fits_fewer, none_fits}

abbrev rolled : (ℕ → Bool) → ℕ → ℕ → Roll
rolled M p q = record { has = M; P = p; Q = q }

-- the roll after an answer: as it was, or with the members N
abbrev turned : Answer → (ℕ → Bool) → (ℕ → Bool) → ℕ → ℕ → Roll
turned o M N p q = cond (refuses o) (rolled M p q) (rolled N p q)

room : (p q : ℕ) (M : ℕ → Bool) → no_room (fitting p q M) ≡ not (fits p q M)
room p q M = grind arith

done_fits : (p q : ℕ) (M : ℕ → Bool) → refuses (fitting p q M) ≡ false → fits p q M ≡ true
done_fits p q M e = grind arith

-- 64 and 4,096 slots are always enough
wide : (M : ℕ → Bool) → fitting 64 4096 M ≡ Done
wide M = grind (arith, nat_tests, groups_most M, blocks_most M)

none_more : (M : ℕ → Bool) (s w : ℕ) → eqb w 0 ≡ true → Fewer (λ m. M m || in_block s w m) M
none_more M s w z k h = grind (arith, nat_tests, block_none s k)

less : (M X : ℕ → Bool) → Fewer (λ m. M m && X m) M
less M X k h = grind arith

-- the rule holds of an ask, and what it leaves fits
abbrev Kept : Roll → Ask → Type 0
Kept r a = MemoryRule r a (reply r a) × (fits (next r a).P (next r a).Q (next r a).has ≡ true)

-- the same by the answer as a tree of tests, with the slots that there are and with slots enough
abbrev Turns : ℕ → ℕ → (ℕ → Bool) → (ℕ → Bool) → Answer → Answer → Type 0
Turns p q M N o w = (no_room o ≡ not (fits p q (turned w M N 64 4096).has)) × (fits (turned o M N p q).P (turned o M N p q).Q (turned o M N p q).has ≡ true)

module _ (p q : ℕ) (M N : ℕ → Bool) (old : fits p q M ≡ true) where
  gain : (b : Bool) → Turns p q M N (cond b (fitting p q N) (Refused 1)) (cond b (fitting 64 4096 N) (Refused 1))
  gain b = grind (arith, room p q N, done_fits p q N, wide N)

  block : (z a b : Bool) → (z ≡ true → Fewer N M) →
      Turns p q M N (cond z Done (cond a (cond b (fitting p q N) (Refused 1)) (Refused 2))) (cond z Done (cond a (cond b (fitting 64 4096 N) (Refused 1)) (Refused 2)))
  block z a b f =
      let g : z ≡ true → fits p q N ≡ true = λ y. fits_fewer p q N M (f y) old in
      grind (arith, room p q N, done_fits p q N, wide N)

  lose : (b x : Bool) → Fewer N M → Turns p q M N (cond b (Told x) (Refused 1)) (cond b (Told x) (Refused 1))
  lose b x f = grind (arith, fits_fewer p q N M f old)

-- so of a set whose members fit
kept : (r : Roll) (a : Ask) → fits r.P r.Q r.has ≡ true → Kept r a
kept r (Ordered (Insert n)) e = gain r.P r.Q r.has _ e (ltb n 262144)
kept r (Ordered (InsertBlock s w)) e = block r.P r.Q r.has _ e (eqb w 0) (eqb (s % 64) 0) (ltb s 262080) (none_more r.has s w)
kept r (Ordered (Remove n)) e = lose r.P r.Q r.has _ e (ltb n 262144) (r.has n) (less r.has (λ m. not (eqb m n)))
kept r (Merged (Unite X)) e = gain r.P r.Q r.has _ e true
kept r (Merged (Intersect X)) e = let f = fits_fewer r.P r.Q (λ m. r.has m && X m) r.has (less r.has X) e in (ap not (sym f), f)
kept r (Ordered (Contains n)) e = (ap not (sym e), e)
kept r (Ordered Used) e = (ap not (sym e), e)
kept r (Indices acts) e = (ap not (sym e), e)
kept r (Blocks acts) e = (ap not (sym e), e)
kept r (PileHas fill n) e = (ap not (sym e), e)
kept r (PileIndices fill acts) e = (ap not (sym e), e)

pub leaves_fits : (r : Roll) (asks : List Ask) → fits r.P r.Q r.has ≡ true → fits (leaves r asks).P (leaves r asks).Q (leaves r asks).has ≡ true
leaves_fits r [] e = e
leaves_fits r (a ∷ rest) e = leaves_fits (next r a) rest (kept r a e).1

-- the rule after any list from a new set
pub list_rule : (p q : ℕ) (asks : List Ask) (a : Ask) → MemoryRule (leaves (nobody p q) asks) a (reply (leaves (nobody p q) asks) a)
list_rule p q asks a = (kept (leaves (nobody p q) asks) a (leaves_fits (nobody p q) asks (none_fits p q))).0
