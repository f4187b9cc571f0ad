-- The laws of an operation, given by its mask function m and its data function f.
use Rattle.std.specs.Prelude.{◌≡◌, Bool, true, ℕ, ◌^◌, ◌<◌}
use Rattle.bits.specs.Bit.{bit}

abbrev pub Word : ℕ → Type 0
Word w = w < 2 ^ 64

-- bit j of the mask p is 1 if the word a below it is not 0
abbrev pub Covers : ℕ → ℕ → ℕ → Type 0
Covers p j a = 0 < a → bit p j ≡ 1

-- and exactly if
abbrev pub Tells : ℕ → ℕ → ℕ → Type 0
Tells p j a = (0 < a → bit p j ≡ 1) × (bit p j ≡ 1 → 0 < a)

-- answers on words are words
abbrev pub Closed : (ℕ → ℕ → ℕ) → Type 0
Closed f = (a b : ℕ) → Word a → Word b → Word (f a b)

-- bit k of an answer depends only on bits k of the two words; how it depends may differ from place to place
abbrev pub Bitwise : (ℕ → ℕ → ℕ) → Type 0
Bitwise f = (a b c d k : ℕ) → Word a → Word b → Word c → Word d → k < 64 → bit a k ≡ bit c k → bit b k ≡ bit d k → bit (f a b) k ≡ bit (f c d) k

-- masks that miss no word give an answer that misses no data answer
abbrev pub Covering : (ℕ → ℕ → ℕ) → (ℕ → ℕ → ℕ) → Type 0
Covering m f = (a b p q j : ℕ) → Word a → Word b → Word p → Word q → j < 64 → Covers p j a → Covers q j b → 0 < f a b → bit (m p q) j ≡ 1

-- of a trusted operation: masks that are exact give an answer that announces nothing in vain, at either level
abbrev pub Exact : Bool → (ℕ → ℕ → ℕ) → (ℕ → ℕ → ℕ) → Type 0
Exact t m f = t ≡ true → (a b p q j : ℕ) → Word a → Word b → Word p → Word q → j < 64 → Tells p j a → Tells q j b → bit (m p q) j ≡ 1 → (0 < f a b) × (0 < m a b)
