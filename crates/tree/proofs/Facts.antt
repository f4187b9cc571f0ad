-- What follows from the shape of a tree.
use Rattle.std.proofs.Common.{◌≡◌, ℕ, ◌<◌, ◌≤◌, true, ◌≢◌, ◌⊎◌, length, get_or, replicate, inl, inr, arith}
use Rattle.std.proofs.lemmas.Bool.{cases_lt}
use Rattle.std.proofs.lemmas.Bool.Decides.{nat_tests}
use Rattle.std.proofs.lemmas.List.{get_or_past, get_or-replicate}
use Rattle.pool.specs.Kinds.{level1_kind}
use Rattle.pool.specs.Pool.{tally}
use Rattle.bits.specs.Sums.{same}
use Rattle.bits.proofs.Totals.{total_at, total_two, totals_at, totals_two}
use Rattle.tree.specs.Trees.{slot1, node, slot2, word, count1, count2, used1, used2, held_by, Shape}
use Rattle.tree.specs.declared.Tree.{Tree}
use Rattle.tree.proofs.Held.{tally_names, tally_rows, tally_none}

pub cases_pair : (a b i j : ℕ) → ((a ≡ i) × (b ≡ j)) ⊎ ((a ≡ i) × (b ≡ j) → ⊥)
cases_pair a b i j = grind arith

pub zeros : (j : ℕ) → get_or level1_kind.blank.slots j 0 ≡ 0
zeros j = elim (cases_lt j 64) [ inl l ↦ get_or-replicate {A = ℕ} 64 j 0 0 l | inr g ↦ get_or_past (replicate {A = ℕ} 64 0) j 0 g ]

module _ (s : Tree) (h : Shape s) where
  -- what lies past the 64 places is slot 0
  pub past1 : (i : ℕ) → 64 ≤ i → slot1 s i ≡ 0
  past1 i le = get_or_past s.level0.slots i 0 (omega (arith, h.long))

  pub past2 : (i j : ℕ) → 64 ≤ j → slot2 s i j ≡ 0
  past2 i j le = get_or_past (node s i).slots j 0 (omega (arith, h.wide i))

  -- a group with no slot has the empty block
  pub node0 : (i : ℕ) → slot1 s i ≡ 0 → node s i ≡ level1_kind.blank
  node0 i z = rw z h.holds1.1.nought

  pub slot0 : (i j : ℕ) → slot1 s i ≡ 0 → slot2 s i j ≡ 0
  slot0 i j z = rw (node0 i z) (zeros j)

  pub word0 : (i j : ℕ) → slot2 s i j ≡ 0 → word s i j ≡ 0
  word0 i j z = rw z h.holds2.1.nought

  -- where an entry is not 0, it is one of the 64 and its slot is held
  pub inner1 : (i : ℕ) → 0 < slot1 s i → i < 64
  inner1 i p = grind (arith, past1 i)

  pub inner2 : (i j : ℕ) → 0 < slot2 s i j → (i < 64) × (j < 64)
  inner2 i j p = grind (arith, past1 i, past2 i j, slot0 i j)

  pub named1 : (i : ℕ) → 0 < slot1 s i → held_by (count1 s) (slot1 s i) ≡ true
  named1 i p = grind (arith, nat_tests, total_at (λ a. same (slot1 s i) (slot1 s a)) 64 i (inner1 i p))

  pub named2 : (i j : ℕ) → 0 < slot2 s i j → held_by (count2 s) (slot2 s i j) ≡ true
  named2 i j p = grind (arith, nat_tests, totals_at (λ a b. same (slot2 s i j) (slot2 s a b)) 64 64 i j (inner2 i j p).0 (inner2 i j p).1)

  pub within1 : (i : ℕ) → slot1 s i < length s.level1.blocks.now
  within1 i = grind (arith, h.holds1.1.begun, h.holds1.1.room, h.holds1.1.never (slot1 s i), named1 i)

  pub within2 : (i j : ℕ) → slot2 s i j < length s.«data».blocks.now
  within2 i j = grind (arith, h.holds2.1.begun, h.holds2.1.room, h.holds2.1.never (slot2 s i j), named2 i j)

  -- no two entries name one slot
  pub apart1 : (a i : ℕ) → a ≢ i → 0 < slot1 s i → slot1 s a ≢ slot1 s i
  apart1 a i ne p e = omega (arith, total_two (λ x. same (slot1 s i) (slot1 s x)) 64 a i (inner1 a (omega arith)) (inner1 i p) ne, h.once1 (slot1 s i) p)

  pub apart2 : (a b i j : ℕ) → ((a ≡ i) × (b ≡ j) → ⊥) → 0 < slot2 s i j → slot2 s a b ≢ slot2 s i j
  apart2 a b i j ne p e =
      let l = inner2 i j p in
      let m = inner2 a b (omega arith) in
      omega (arith, totals_two (λ x y. same (slot2 s i j) (slot2 s x y)) 64 64 i j a b l.0 l.1 m.0 m.1 ne, h.once2 (slot2 s i j) p)

  -- as many slots are held as entries are not 0
  pub tally1 : tally (held_by (count1 s)) (length s.level1.blocks.now) ≡ used1 s
  tally1 = omega (arith, tally_none (length s.level1.blocks.now), tally_names (λ _. 0) (count1 s) (slot1 s) 64 (length s.level1.blocks.now) (λ k. omega arith) (λ i l. within1 i) h.once1)

  pub tally2 : tally (held_by (count2 s)) (length s.«data».blocks.now) ≡ used2 s
  tally2 = omega (arith, tally_none (length s.«data».blocks.now), tally_rows (λ _. 0) (count2 s) (slot2 s) 64 64 (length s.«data».blocks.now) (λ k. omega arith) (λ i j l r. within2 i j) h.once2)
