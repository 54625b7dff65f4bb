-- Where there is no column, each cell is a null.
use Rattle.std.proofs.Common.{length, sym}
use Rattle.std.proofs.lemmas.Bool.{ltb-false}
use Rattle.std.proofs.lemmas.Option.{slice_get_past}
use Rattle.column_kernels.proofs.EvaluationSteps.{no-column}
use Rattle.column_kernels.proofs.evaluation.rows_at.Goals as goal

pub returns-in-None-clause-cells : goal.returns-in-None-clause-cells
returns-in-None-clause-cells c =
    let columns = c.args.columns.now in
    let past = ltb-false c.args.column (length columns) (sym c.in-None.ensures.lookup.0) in
    λ row. no-column columns c.args.column c.args.count row (slice_get_past columns c.args.column past)
