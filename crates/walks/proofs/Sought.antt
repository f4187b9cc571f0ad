-- What a seek of a walk over members leaves.
use Rattle.std.proofs.Common.{◌≡◌, ℕ, ◌+◌, ◌*◌, ◌<◌, ◌≤◌, Bool, [], ◌∷◌, sym, ap, ◌∙◌}
use Rattle.bits.specs.Bit.{bit}
use Rattle.bits.proofs.Listed.{places_zero}
use Rattle.operands.specs.Ruled.{Ruled}
use Rattle.roll.specs.Members.{members}
use Rattle.walks.specs.Pending.{pending, whole, onward}
use Rattle.walks.specs.Indices.{remaining, listed, from}
use Rattle.walks.proofs.Skip.{skip_some, skip_none}
use Rattle.walks.proofs.Steps.{rem_none}
use Rattle.walks.proofs.Whole.{whole_listed}

-- a seek to n: the set before, after the walk over blocks has moved, and after it has handed out a block
module _ {S : Type 0} (mid : S → ℕ → ℕ) (word : S → ℕ → ℕ → ℕ) (s s' s'' : S) (e : s' ≡ s) (f : s'' ≡ s')
    (trusted : Bool) (top : ℕ) (r : Ruled trusted top (mid s) (word s))
    (n i l t : ℕ) (moved : pending (mid s') i l t ≡ onward n (whole (mid s) top)) where
  pub sought_some : (a b st v left i' l' t' : ℕ) → pending (mid s') i l t ≡ (a, b) ∷ pending (mid s'') i' l' t' → st ≡ 4096 * a + 64 * b → v ≡ word s' a b →
      (n ≤ 4096 * a + 64 * b + 63 → (k : ℕ) → k < 64 → (n ≤ 4096 * a + 64 * b + k → bit left k ≡ bit v k) × (4096 * a + 64 * b + k < n → bit left k ≡ 0)) →
      remaining (mid s'') (word s'') i' l' t' st left ≡ from n (listed (members (word s)))
  unfolding remaining
  sought_some a b st v left i' l' t' p es q h =
      let z = rw (q, e) at h in
      let x = rw (f, e) at (sym moved ∙ p) in
      rw (es, f, e, skip_some (word s) (mid s) top n a b left (pending (mid s) i' l' t') x z) (ap (from n) (whole_listed trusted top (mid s) (word s) r))

  pub sought_none : (i' l' t' start : ℕ) → pending (mid s') i l t ≡ [] → pending (mid s'') i' l' t' ≡ [] →
      remaining (mid s'') (word s'') i' l' t' start 0 ≡ from n (listed (members (word s)))
  sought_none i' l' t' start p q =
      rw (rem_none (mid s'') (word s'') i' l' t' start 0 places_zero q, sym (skip_none (word s) (mid s) top n (sym moved ∙ p))) (ap (from n) (whole_listed trusted top (mid s) (word s) r))
