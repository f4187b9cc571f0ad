-- What a pool relies on: each slot but slot 0 is held, or stands once on the chain, or was never taken.
use Rattle.std.specs.Prelude.{◌≡◌, ℕ, zero, suc, ◌+◌, ◌<◌, ◌≤◌, max, Bool, true, false, cond, List, [], ◌∷◌, length, get_or, Some, None, Option, ◌==◌, slice_index_or, slice_set}
use Rattle.roll.specs.Members.{one}
use Rattle.pool.specs.Kinds.{Kind}

-- how often i stands in a list
abbrev pub times : ℕ → List ℕ → ℕ
times i [] = 0
times i (x ∷ xs) = one (i == x) + times i xs

-- how many slots below n are held
abbrev pub tally : (ℕ → Bool) → ℕ → ℕ
tally held zero = 0
tally held (suc n) = one (held n) + tally held n

-- the held slots with slot i among them, and without it
abbrev pub only : ℕ → (ℕ → Bool) → ℕ → Bool
only i held k = cond (k == i) true (held k)

abbrev pub without : ℕ → (ℕ → Bool) → ℕ → Bool
without i held k = cond (k == i) false (held k)

-- the links lead from root through the chain's slots to 2^64 - 1, and each block on the way is empty but for its link
abbrev pub Linked : {B : Type 0} → Kind B → List B → ℕ → List ℕ → Type 0
Linked kind bs root [] = root ≡ 18446744073709551615
Linked kind bs root (i ∷ is) = (root ≡ i) × (kind.relink (slice_index_or bs i kind.blank) 0 ≡ kind.blank) × Linked kind bs (kind.link (slice_index_or bs i kind.blank)) is

-- the pool over the blocks bs whose held slots are those where held is true, by its chain of free slots:
-- slot 0 is empty and neither held nor chained; a slot below fresh is held or stands once on the chain, not both;
-- a slot from fresh on was never taken, and is neither
pub record Chained {B : Type 0} (kind : Kind B) (bs : List B) (root count fresh : ℕ) (held : ℕ → Bool) (chain : List ℕ) : Type 0 where
  pub nought : get_or bs 0 kind.blank ≡ kind.blank
  pub begun : 0 < fresh
  pub room : fresh ≤ length bs
  pub counted : count ≡ length chain
  pub links : Linked kind bs root chain
  pub at_nought : one (held 0) + times 0 chain ≡ 0
  pub once : (i : ℕ) → 0 < i → i < fresh → one (held i) + times i chain ≡ 1
  pub never : (i : ℕ) → fresh ≤ i → one (held i) + times i chain ≡ 0
  pub tallied : tally held (length bs) + length chain + 1 ≡ fresh

-- some chain makes it so; the blocks spell it
abbrev pub Sound : {B : Type 0} → Kind B → List B → ℕ → ℕ → ℕ → (ℕ → Bool) → Type 0
Sound kind bs root count fresh held = (chain : List ℕ) × Chained kind bs root count fresh held chain

-- nothing was taken: nothing changed, and every slot but slot 0 is held
pub record Full {B : Type 0} (bs : List B) (root count fresh : ℕ) (bs' : List B) (root' count' fresh' : ℕ) (held : ℕ → Bool) : Type 0 where
  pub same_blocks : bs' ≡ bs
  pub same_root : root' ≡ root
  pub same_count : count' ≡ count
  pub same_fresh : fresh' ≡ fresh
  pub all_held : (i : ℕ) → 0 < i → i < length bs → held i ≡ true
  pub tally_full : tally held (length bs) + 1 ≡ length bs

-- slot i was taken. Which one is left free; it is above 0 and within, was free, is now empty and held,
-- and no other block and no other slot's state changed
pub record Got {B : Type 0} (kind : Kind B) (bs : List B) (fresh : ℕ) (bs' : List B) (root' count' fresh' : ℕ) (held : ℕ → Bool) (i : ℕ) : Type 0 where
  pub above : 0 < i
  pub reach : fresh' ≤ max fresh (tally held (length bs) + 2)
  pub within : i < length bs
  pub was_free : held i ≡ false
  pub had_room : tally held (length bs) + 1 < length bs
  pub written : bs' ≡ slice_set bs i kind.blank
  pub sound : Sound kind bs' root' count' fresh' (only i held)

abbrev pub Took : {B : Type 0} → Kind B → List B → ℕ → ℕ → ℕ → List B → ℕ → ℕ → ℕ → (ℕ → Bool) → Option ℕ → Type 0
Took kind bs root count fresh bs' root' count' fresh' held None = Full bs root count fresh bs' root' count' fresh' held
Took kind bs root count fresh bs' root' count' fresh' held (Some i) = Got kind bs fresh bs' root' count' fresh' held i

-- slot i was freed: no longer held, with the old root as its link; no other block and no other slot's state changed
pub record Gave {B : Type 0} (kind : Kind B) (bs : List B) (root count fresh : ℕ) (bs' : List B) (root' count' fresh' : ℕ) (held : ℕ → Bool) (i : ℕ) : Type 0 where
  pub written : bs' ≡ slice_set bs i (kind.relink (slice_index_or bs i kind.blank) root)
  pub same_fresh : fresh' ≡ fresh
  pub sound : Sound kind bs' root' count' fresh' (without i held)
