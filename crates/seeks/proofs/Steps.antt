-- One action of a list.
use Rattle.std.proofs.Common.{◌≡◌, ℕ, ◌+◌, ◌<◌, List, [], ◌∷◌, ◌++◌, length, get_or, drop, Some, None, Option, append_assoc, ap, sym, ◌∙◌}
use Rattle.std.proofs.lemmas.List.{at_drop_more}
use Rattle.bits.specs.Places.{Taken}
use Rattle.acts.specs.declared.Action.{Action}
use Rattle.acts.specs.declared.Action.TheVariants.{Next, Seek}
use Rattle.acts.specs.Answers.{answers, first, rest}

-- what is taken is the first of what was left, and the rest is left
pub taken_first : {I : Type 0} (xs : List I) (r : Option I) (ys : List I) → Taken xs r ys → (first xs ≡ r) × (rest xs ≡ ys)
taken_first xs None ys t = (ap first t.0, ap rest t.0 ∙ sym t.1)
taken_first xs (Some x) ys t = (ap first t, ap rest t)

module _ {I : Type 0} (cut : ℕ → List I → List I) (all : List I) where
  module _ (acts : List Action) (i : ℕ) (h : i < length acts) (xs ys : List I) (out : List (Option I)) where
    pub step_next : (r : Option I) (more : List (Option I)) → get_or acts i Next ≡ Next → Taken xs r ys → more ≡ out ++ (r ∷ []) →
        more ++ answers cut all ys (drop (i + 1) acts) ≡ out ++ answers cut all xs (drop i acts)
    step_next None more e t m = rw (m, append_assoc, at_drop_more (answers cut all xs) acts i Next h, e, t.0, t.1)
    step_next (Some x) more e t m = rw (m, append_assoc, at_drop_more (answers cut all xs) acts i Next h, e, t)

    pub step_seek : (s : ℕ) → get_or acts i Next ≡ Seek s → ys ≡ cut s all →
        out ++ answers cut all ys (drop (i + 1) acts) ≡ out ++ answers cut all xs (drop i acts)
    step_seek s e t = rw (t, at_drop_more (answers cut all xs) acts i Next h, e)
