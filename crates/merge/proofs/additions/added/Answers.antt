use Rattle.std.proofs.Common.{◌≡◌, ℕ, ◌<◌, not, eqb, ap, ◌∙◌, arith}
use Rattle.std.proofs.lemmas.Bool.Decides.{nat_tests}
use mir.Val.{bool_byte}
use Rattle.bits.specs.Sums.{some}
use Rattle.bits.proofs.Ones.{ones_some}
use Rattle.merge.proofs.Counted.{new_row, row_some}
use Rattle.merge.proofs.additions.added.Goals as goal
use Rattle.merge.proofs.additions.added.Goals.{then-here-eq0, else-here-eq0}

is_new : (n x : ℕ) → x ≡ bool_byte (not (eqb n 0)) → x ≡ some n
is_new n x e = grind (arith, nat_tests)

is_old : (n x : ℕ) → 0 < n → x ≡ bool_byte (eqb n 0) → x ≡ 0
is_old n x p e = grind (arith, nat_tests)

pub returns-clause-groups : goal.returns-clause-groups
returns-clause-groups g c =
    let s = c.args.tree.now in
    let i = c.args.i in
    let here = c.level1_mask-here.result in
    let new = c.filled_places-new.result in
    let e = c.level1_mask-here.ensures in
    let b = new_row s c.requires.sound (g.X.LevelMasks.word c.args.x.now) i here new e c.filled_places-new.type_inv c.filled_places-new.ensures in
    let h = row_some s c.requires.sound i here e in
    let n = ones_some 64 new c.filled_places-new.type_inv in
    elim c.if-here-eq0.branch [
      | then-here-eq0 w ↦ omega (arith, b, h, n, w.if-here-eq0.true, is_new new c.from-groups.result (c.from-groups.ensures ∙ ap bool_byte w.from-is))
      | else-here-eq0 w ↦ omega (arith, b, h, n, w.if-here-eq0.false, is_old here c.from-groups.result (omega (arith, w.if-here-eq0.false)) (c.from-groups.ensures ∙ ap bool_byte w.from-is))
    ]

pub returns-clause-blocks : goal.returns-clause-blocks
returns-clause-blocks g c =
    new_row c.args.tree.now c.requires.sound (g.X.LevelMasks.word c.args.x.now) c.args.i c.level1_mask-here.result c.filled_places-new.result c.level1_mask-here.ensures c.filled_places-new.type_inv c.filled_places-new.ensures
