-- A value that takes memory is among those of the rows.
use Rattle.column_statistics.specs.Errors.{TakeMemory}
use Rattle.column_statistics.proofs.CutLaws.{refused_with, takes_at}
use Rattle.column_statistics.proofs.extremes.extremes_at.Goals as goal

pub returns-in_err-least-clause-refused : goal.returns-in_err-least-clause-refused
returns-in_err-least-clause-refused c =
    let place = c.requires.places.least in
    refused_with _ (TakeMemory c.args.rows.now) (takes_at c.args.rows.now c.args.places.least place.content place.stands c.in_err-least.ensures.refused.1)

pub returns-in-Err-clause-refused : goal.returns-in-Err-clause-refused
returns-in-Err-clause-refused c =
    let place = c.requires.places.greatest in
    takes_at c.args.rows.now c.args.places.greatest place.content place.stands c.in-Err.ensures.refused.1
