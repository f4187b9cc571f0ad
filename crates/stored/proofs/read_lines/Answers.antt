use Rattle.std.proofs.Common.{List, [], ◌∷◌, ◌++◌, refl, rules}
use Rattle.std.specs.List.{AllZip}
use Rattle.std.proofs.lemmas.List.{map-append}
use Rattle.std.proofs.lemmas.Iterator.Consumers.{YieldsList-end}
use Rattle.std.proofs.lemmas.Iterator.Splits.{YieldsList-from_lines}
use Rattle.stored.proofs.read_lines.Goals as goal

-- one element more on both sides
zipped_more : {B C : Type 0} (R : C → B → Type 0) (xs : List C) (ys : List B) (x : C) (y : B) → AllZip R xs ys → R x y → AllZip R (xs ++ (x ∷ [])) (ys ++ (y ∷ []))
zipped_more R [] [] x y h r = (r, tt)
zipped_more R [] (b ∷ ys) x y h r = absurd h
zipped_more R (a ∷ xs) [] x y h r = absurd h
zipped_more R (a ∷ xs) (b ∷ ys) x y h r = (h.0, zipped_more R xs ys x y h.1 r)

pub loop-line-preserved : goal.loop-line-preserved
loop-line-preserved g c =
    rw (c.in_ok-push.ensures.items, map-append) (zipped_more _ _ _ _ _ c.loop-line.invariant (record { shown = c.in-Some.line; shows = refl; says = record { met = search rules } }))

pub returns : goal.returns
returns g c =
    let t = YieldsList-end (YieldsList-from_lines c.args.text.now cc) c.loop-line.yielded _ c.loop-line.yielded_by _ _ c.in-None.is c.next.ensures.steps in
    rw t.0 at c.loop-line.invariant
