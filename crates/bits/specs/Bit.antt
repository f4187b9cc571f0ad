-- The bits of a word, and what taking the lowest one bit out of it leaves.
use Rattle.std.specs.Prelude.{◌≡◌, ℕ, ◌*◌, ◌/◌, ◌%◌, ◌^◌, ◌<◌, Some, None, Option, ◌≢◌}

-- bit k of w, which weighs 2 ^ k: 0 or 1
unfoldable pub bit : ℕ → ℕ → ℕ
bit w k = w / 2 ^ k % 2

-- w with its bits below n at 0
abbrev pub cut : ℕ → ℕ → ℕ
cut n w = w / 2 ^ n * 2 ^ n

-- v is w without its lowest one bit, which stands at k; no other bit differs
pub record Lost (w k v : ℕ) : Type 0 where
  pub within : k < 64
  pub one : bit w k ≡ 1
  pub lowest : (a : ℕ) → a < k → bit w a ≡ 0
  pub gone : bit v k ≡ 0
  pub rest : (a : ℕ) → (a ≢ k) → bit v a ≡ bit w a

-- nothing comes from the zero word alone, which stays; else the lowest one bit
abbrev pub Popped : ℕ → Option ℕ → ℕ → Type 0
Popped w None v = (w ≡ 0) × (v ≡ 0)
Popped w (Some k) v = Lost w k v
