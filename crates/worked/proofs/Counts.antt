-- The walks of the worked cases, computed from the definitions.
use Rattle.std.proofs.Common.{◌≡◌, false, not, ◌&&◌, ◌||◌, eqb, [], ◌∷◌, refl}
use Rattle.walks.specs.Indices.{listed, sift}

pub walk : listed (λ m. ((((false || eqb m 5) || eqb m 70) || eqb m 5000) && not (eqb m 70)) || eqb m 200) ≡ 5 ∷ 200 ∷ 5000 ∷ []
unfolding listed sift
walk = refl

pub walk_0 : listed (λ m. false || eqb m 0) ≡ 0 ∷ []
unfolding listed sift
walk_0 = refl
