-- A word as the ascending list of the places of its one bits.
use Rattle.std.specs.Prelude.{◌≡◌, ℕ, zero, suc, cond, List, [], ◌∷◌, Some, None, Option, ◌==◌}
use Rattle.bits.specs.Bit.{bit}

-- the one bits of w among the n places from k on, ascending
unfoldable pub scan : ℕ → ℕ → ℕ → List ℕ
scan zero k w = []
scan (suc n) k w = cond (bit w k == 1) (k ∷ scan n (suc k) w) (scan n (suc k) w)

-- those of a word of 64 bits
unfoldable pub places : ℕ → List ℕ
unfolding scan
places w = scan 64 0 w

-- r is the head of xs and ys the rest; nothing comes from the empty list alone
abbrev pub Taken : {X : Type 0} → List X → Option X → List X → Type 0
Taken xs None ys = (xs ≡ []) × (ys ≡ [])
Taken xs (Some x) ys = xs ≡ x ∷ ys
