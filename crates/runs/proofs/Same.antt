-- Lists keep how many slots there are, so equal members in equally long slices make equal rolls; and lists that ask
-- the same are equal.
use Rattle.std.proofs.Common.{◌≡◌, ℕ, Bool, List, [], ◌∷◌, length, refl, ap, ◌∙◌, arith}
use mathlib.Core.Path.{fun_ext}
use Rattle.roll.specs.Roll.{Roll, made}
use Rattle.roll.specs.Merges.{Unite, Intersect, joint}
use Rattle.bitset.proofs.Calls.{same_roll}
use Rattle.runs.specs.Asks.{Ask, Ordered, Merged, Indices, Blocks, PileHas, PileIndices, next, leaves, new_roll}
use Rattle.runs.specs.SameAsks.{SameAsk, itself, unite, intersect, pile_has, pile_indices, SameAsks, none, more}

-- what a call cannot change of a roll, a list cannot
module _ {X : Type 0} (f : Roll → X) (keeps : (r : Roll) (M : ℕ → Bool) → f (record { has = M; P = r.P; Q = r.Q }) ≡ f r) where
  next_keeps : (r : Roll) (a : Ask) → f (next r a) ≡ f r
  next_keeps r (Ordered c) = grind (arith, keeps r (made r.has c))
  next_keeps r (Merged c) = grind (arith, keeps r (joint r.has c))
  next_keeps r (Indices acts) = refl
  next_keeps r (Blocks acts) = refl
  next_keeps r (PileHas fill n) = refl
  next_keeps r (PileIndices fill acts) = refl

  pub leaves_keeps : (r : Roll) (asks : List Ask) → f (leaves r asks) ≡ f r
  leaves_keeps r [] = refl
  leaves_keeps r (a ∷ rest) = leaves_keeps (next r a) rest ∙ next_keeps r a

pub same_left : {A B C D : Type 0} (u1 : List A) (l1 : List B) (u2 : List C) (l2 : List D) (x y : List Ask) → length u1 ≡ length u2 → length l1 ≡ length l2
    → ((n : ℕ) → (leaves (new_roll u1 l1) x).has n ≡ (leaves (new_roll u2 l2) y).has n) → leaves (new_roll u1 l1) x ≡ leaves (new_roll u2 l2) y
same_left u1 l1 u2 l2 x y eu el em =
    let r = leaves (new_roll u1 l1) x in
    let s = leaves (new_roll u2 l2) y in
    same_roll r.has s.has r.P s.P r.Q s.Q em
    (simp (leaves_keeps (λ z. z.P) (λ _ _. refl), eu)) (simp (leaves_keeps (λ z. z.Q) (λ _ _. refl), el))

same_ask : {a b : Ask} → SameAsk a b → a ≡ b
same_ask (itself a) = refl
same_ask (unite X Y e) = ap (λ Z. Merged (Unite Z)) (fun_ext e)
same_ask (intersect X Y e) = ap (λ Z. Merged (Intersect Z)) (fun_ext e)
same_ask (pile_has F G n e) = ap (λ H. PileHas H n) (fun_ext (λ M. fun_ext (e M)))
same_ask (pile_indices F G acts e) = ap (λ H. PileIndices H acts) (fun_ext (λ M. fun_ext (e M)))

pub same_asks : {xs ys : List Ask} → SameAsks xs ys → xs ≡ ys
same_asks none = refl
same_asks (more a b xs ys h t) = ap (λ z. z ∷ xs) (same_ask h) ∙ ap (λ zs. b ∷ zs) (same_asks t)
