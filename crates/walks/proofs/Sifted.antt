-- The indices that pass a test, ascending.
use Rattle.std.proofs.Common.{◌≡◌, ℕ, zero, suc, ◌+◌, ◌<◌, ◌≤◌, Bool, true, leb, List, [], ◌∷◌, ◌++◌, filter, arith}
use Rattle.std.specs.List.{AllByRecursion}
use Rattle.std.proofs.lemmas.Bool.Decides.{nat_tests}
use Rattle.std.proofs.ByRecursion.{all_kept_by}
use Rattle.walks.specs.Indices.{sift, listed, from, In, Rising, Lists}

module _ (p : ℕ → Bool) where
  pub sift_append : (a b k : ℕ) → sift p (a + b) k ≡ sift p a k ++ sift p b (k + a)
  unfolding sift
  sift_append zero b k = grind arith
  sift_append (suc a) b k =
      let e : suc a + b ≡ suc (a + b) = omega arith in
      let t = sift_append a b (suc k) in
      rw e (grind (arith, t))

  pub sift_has : (n k x : ℕ) → In x (sift p n k) → (k ≤ x) × (x < k + n) × (p x ≡ true)
  unfolding sift
  sift_has zero k x h = absurd h
  sift_has (suc n) k x h = grind (arith, sift_has n (suc k) x)

  pub sift_all : (n k x : ℕ) → k ≤ x → x < k + n → p x ≡ true → In x (sift p n k)
  unfolding sift
  sift_all zero k x a b e = absurd (omega arith)
  sift_all (suc n) k x a b e = grind (arith, sift_all n (suc k) x)

  pub sift_rising : (n k : ℕ) → Rising (λ x. x) (sift p n k)
  unfolding sift
  sift_rising zero k = tt
  sift_rising (suc n) k = grind (arith, later n k (suc k), sift_rising n (suc k))
    where
      later : (n b k : ℕ) → b < k → AllByRecursion (λ x. b < x) (sift p n k)
      later zero b k h = tt
      later (suc n) b k h = grind (arith, later n b (suc k))

-- ---- what a test keeps

pub kept_has : (q : ℕ → Bool) (xs : List ℕ) (x : ℕ) → In x (filter q xs) → In x xs × (q x ≡ true)
kept_has q [] x h = absurd h
kept_has q (y ∷ ys) x h = grind (arith, kept_has q ys x)

pub kept_in : (q : ℕ → Bool) (xs : List ℕ) (x : ℕ) → In x xs → q x ≡ true → In x (filter q xs)
kept_in q [] x h e = absurd h
kept_in q (y ∷ ys) x h e = grind (arith, kept_in q ys x)

pub kept_rising : {X : Type 0} (f : X → ℕ) (q : X → Bool) (xs : List X) → Rising f xs → Rising f (filter q xs)
kept_rising f q [] h = tt
kept_rising f q (x ∷ xs) h =
    let k = all_kept_by q (λ y. f x < f y) xs h.0 in
    grind (arith, k, kept_rising f q xs h.1)

-- ---- the theorem on the list of a test

pub lists_all : (p : ℕ → Bool) → Lists p 0 (listed p)
unfolding listed
lists_all p = record {
  has = λ n. grind (arith, sift_has p 262144 0 n);
  all = λ n. grind (arith, sift_all p 262144 0 n);
  rising = sift_rising p 262144 0;
}

pub lists_from : (p : ℕ → Bool) (s : ℕ) → Lists p s (from s (listed p))
unfolding from
lists_from p s =
    let l = lists_all p in
    record {
      has = λ n. grind (arith, nat_tests, kept_has (leb s) (listed p) n, l.has n);
      all = λ n. grind (arith, nat_tests, kept_in (leb s) (listed p) n, l.all n);
      rising = kept_rising (λ n. n) (leb s) (listed p) l.rising;
    }
