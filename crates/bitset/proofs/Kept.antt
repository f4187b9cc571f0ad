-- What a set's type says of its tree.
use Rattle.std.proofs.Common.{◌≡◌, true, false, sym, subst, ⊎_elim}
use Rattle.std.proofs.lemmas.Bool.{cases_Bool}
use mathlib.Core.HLevel.{is_prop→PathP}
use mathlib.Core.Logic.{∥∥₁_prop}
use Rattle.roll.specs.Roll.{Answer, refuses}
use Rattle.tree.specs.Trees.{Sound}
use Rattle.tree.specs.declared.Tree.{Tree}
use Rattle.tree.proofs.OneProof.{sound_had}
use Rattle.bitset.specs.declared.BitSet.{BitSet}

pub sound_of : (s : BitSet) → Sound s.tree
sound_of s = sound_had s.tree s.sound

-- sets with the same tree are the same
pub same_set : (s t : BitSet) → s.tree ≡ t.tree → s ≡ t
same_set s t e = λ i. record { tree = e i; sound = is_prop→PathP (λ j. ∥ Sound (e j) ∥₁) (λ j. ∥∥₁_prop) s.sound t.sound i }

-- a change that is sound where it is made, and none where it is refused
pub still_sound : (s s' : Tree) (o : Answer) → Sound s → (refuses o ≡ false → Sound s') → (refuses o ≡ true → s' ≡ s) → ∥ Sound s' ∥₁
still_sound s s' o t put kept =
    ⊎_elim (λ (x : refuses o ≡ true). ∣ subst Sound (sym (kept x)) t ∣₁) (λ (x : refuses o ≡ false). ∣ put x ∣₁) (cases_Bool (refuses o))
