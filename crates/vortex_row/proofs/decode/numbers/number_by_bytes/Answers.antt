-- The first byte says how the number goes on, and what follows it how far it is from 0.
use Rattle.vortex_row.proofs.NumberForms.{number-away, number-missing, number-stuck}
use Rattle.vortex_row.proofs.PartSteps.{refused}
use Rattle.vortex_row.proofs.ReaderSteps.{after-first}
use Rattle.vortex_row.proofs.decode.numbers.number_by_bytes.Goals as goal

pub returns-in_default : goal.returns-in_default
returns-in_default c = λ bad. number-missing c.args.ptype _ c.in_default.ensures

pub returns-in_err-distance : goal.returns-in_err-distance
returns-in_err-distance c =
    refused _ _ _ _ _ _ c.from_residual.ensures
    (λ bad. number-stuck c.args.ptype c.in-Some.head c.in-Some-form_after.form.below c.in-Some-form_after.form.width c.in-Some-form_after.form.limit _ _ _ c.in-Some-form_after.ensures
    (after-first _ _ c.in-Some.head c.in-Some.ensures c.advance.ensures) c.in_err-distance.ensures)

pub number_of-requires : goal.number_of-requires
number_of-requires c = λ e. number-away c.args.ptype c.in-Some.head c.in-Some-form_after.form.below c.in-Some-form_after.form.width c.in-Some-form_after.form.limit c.in_ok-distance.distance _ _ c.in-Some-form_after.ensures c.in_ok-distance.ensures e
