-- A space, and a field that writes no number.
use Rattle.std.proofs.Common.{inl, inr, rules}
use Rattle.std.proofs.lemmas.Result.{err_from_is_err_and}
use Rattle.shift.proofs.Cuts.{spaced}
use Rattle.shift.proofs.fields.next_number.Goals as goal

pub returns-in_err-number : goal.returns-in_err-number
returns-in_err-number c =
    let p = err_from_is_err_and c.from_residual.result c.from_residual.ensures.1 in
    rw (p.1, p.2) (λ k. inr (_, _, spaced _ _ _ (search rules) (search rules) c.first_field.ensures, inl c.in_err-number.ensures))
