-- The indices of a walk over members, in order.
use Rattle.std.specs.Prelude.{◌≡◌, ℕ, zero, suc, ◌+◌, ◌*◌, ◌<◌, ◌≤◌, Bool, true, cond, ◌⊎◌, List, [], ◌∷◌, ◌++◌, filter, nat_le}
use Rattle.std.specs.List.{AllByRecursion}
use Rattle.bits.specs.Places.{places}
use Rattle.walks.specs.Pending.{pending}

-- each of a list's places, counted from b
unfoldable pub placed : ℕ → List ℕ → List ℕ
placed b [] = []
placed b (k ∷ ks) = (b + k) ∷ placed b ks

-- the first number of the block of a pair
abbrev pub start_of : ℕ × ℕ → ℕ
start_of p = 4096 * p.0 + 64 * p.1

-- the numbers of the one bits of the words of a list of pairs
unfoldable pub spread : (ℕ → ℕ → ℕ) → List (ℕ × ℕ) → List ℕ
spread word [] = []
spread word (p ∷ ps) = placed (start_of p) (places (word p.0 p.1)) ++ spread word ps

-- the numbers that an iterator has yet to hand out
unfoldable pub remaining : (ℕ → ℕ) → (ℕ → ℕ → ℕ) → ℕ → ℕ → ℕ → ℕ → ℕ → List ℕ
remaining middle word i left top start here = placed start (places here) ++ spread word (pending middle i left top)

-- the numbers that pass a test among the n from k on, in rising order
unfoldable pub sift : (ℕ → Bool) → ℕ → ℕ → List ℕ
sift p zero k = []
sift p (suc n) k = cond (p k) (k ∷ sift p n (suc k)) (sift p n (suc k))

-- those below 262144
unfoldable pub listed : (ℕ → Bool) → List ℕ
listed p = sift p 262144 0

-- those of a list from s on
unfoldable pub from : ℕ → List ℕ → List ℕ
from s xs = filter (nat_le s) xs

abbrev pub In : ℕ → List ℕ → Type 0
In x [] = ⊥
In x (y ∷ ys) = (y ≡ x) ⊎ In x ys

-- strictly rising by a measure
abbrev pub Rising : {X : Type 0} → (X → ℕ) → List X → Type 0
Rising f [] = Unit {0}
Rising f (x ∷ xs) = AllByRecursion (λ y. f x < f y) xs × Rising f xs

-- xs are exactly the numbers from s on that pass, each once, in rising order
pub record Lists (p : ℕ → Bool) (s : ℕ) (xs : List ℕ) : Type 0 where
  pub has : (n : ℕ) → In n xs → (s ≤ n) × (n < 262144) × (p n ≡ true)
  pub all : (n : ℕ) → s ≤ n → n < 262144 → p n ≡ true → In n xs
  pub rising : Rising (λ n. n) xs
