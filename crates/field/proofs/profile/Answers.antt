-- `field::profile` meets its contract: measure's refusal is the verdict; and else the walk over the records, which the check finds sound, comes to the
-- first that breaks the profile, or to none.
use Rattle.std.specs.Prelude.{refl}
use Rattle.std.proofs.Common.{arith}
use Rattle.std.proofs.lemmas.Result.{err_from_is_err_and}
use Rattle.field.specs.Laws.{led, found_is, told_refused, told_unfit, told_fit}
use Rattle.field.proofs.profile.Goals as goal

pub returns-in_err-length : goal.returns-in_err-length
returns-in_err-length c =
    let p = err_from_is_err_and c.from_residual.result c.from_residual.ensures.1 in
    rw (p.1, p.2) (told_refused _ c.in_err-length.ensures)

pub profile_row-requires : goal.profile_row-requires
profile_row-requires c = (omega arith, led c.in_ok-length.ensures refl)

pub returns-in-Ok : goal.returns-in-Ok
returns-in-Ok c = told_fit c.in_ok-length.ensures _ (found_is c.in_ok-length.ensures refl _ c.in-Ok.ensures)

pub returns-in-Err : goal.returns-in-Err
returns-in-Err c = told_unfit c.in_ok-length.ensures _ (found_is c.in_ok-length.ensures refl _ c.in-Err.ensures)
