-- Soundness has one proof at most, so a ghost field that says it truncated gives it whole.
use Rattle.std.proofs.Common.{◌≡◌, ℕ, List, [], ◌∷◌, length, slice_index_or, Bool, sym, ◌∙◌, refl, arith}
use denote.Struct.Props.{props}
use mathlib.Core.Logic.{∥∥₁_elim}
use mathlib.Core.HLevel.{Σ_prop_path}
use Rattle.pool.specs.Kinds.{Kind, level1_kind, data_kind}
use Rattle.pool.specs.Pool.{Linked, Chained}
use Rattle.pool.specs.Pool as pools
use Rattle.pool.specs.Levels.{Holds}
use Rattle.tree.specs.Trees.{count1, count2, held_by, Sound}
use Rattle.tree.specs.declared.Tree.{Tree}

module _ {B : Type 0} (set : IsSet B) (kind : Kind B) (bs : List B) where
  Linked-prop : (root : ℕ) (is : List ℕ) → IsProp (Linked kind bs root is)
  Linked-prop root [] = hlevel props
  Linked-prop root (i ∷ is) = hlevel (props, set, Linked-prop (kind.link (slice_index_or bs i kind.blank)) is)

  -- two chains that are as long lead through the same slots
  one_chain : (root : ℕ) (is js : List ℕ) → length is ≡ length js → Linked kind bs root is → Linked kind bs root js → is ≡ js
  one_chain root [] [] n x y = refl
  one_chain root [] (j ∷ js) n x y = absurd (omega (arith, n))
  one_chain root (i ∷ is) [] n x y = absurd (omega (arith, n))
  one_chain root (i ∷ is) (j ∷ js) n x y =
      let e : i ≡ j = sym x.0 ∙ y.0 in
      cc (one_chain (kind.link (slice_index_or bs j kind.blank)) is js (omega (arith, n)) (rw e at x.2) y.2)

  Chained-prop : (root count fresh : ℕ) (held : ℕ → Bool) (chain : List ℕ) → IsProp (Chained kind bs root count fresh held chain)
  Chained-prop root count fresh held chain = hlevel (props, set, Linked-prop)

  pool_prop : (root count fresh : ℕ) (held : ℕ → Bool) → IsProp (pools.Sound kind bs root count fresh held)
  pool_prop root count fresh held x y =
      Σ_prop_path (λ chain. Chained-prop root count fresh held chain) (one_chain root x.0 y.0 (sym x.1.counted ∙ y.1.counted) x.1.links y.1.links)

pub sound_had : (s : Tree) → ∥ Sound s ∥₁ → Sound s
sound_had s t =
    let upper : IsProp (Holds level1_kind s.level1 (held_by (count1 s))) = pool_prop (hlevel props) level1_kind _ _ _ _ _ in
    let lower : IsProp (Holds data_kind s.«data» (held_by (count2 s))) = pool_prop (hlevel props) data_kind _ _ _ _ _ in
    ∥∥₁_elim t (hlevel (props, upper, lower)) (λ u. u)
