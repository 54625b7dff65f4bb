-- A filter that may match no row of the one column matches no cell of the pieces.
use Rattle.std.proofs.Common.{◌++◌}
use Rattle.column_statistics.specs.Cells.{cells_of_column}
use Rattle.vortex_filter.specs.Formula.{formula}
use Rattle.vortex_statistics.specs.Statistics.{known}
use Rattle.law_callers.proofs.PieceSteps.{none_matches, skipped_no}
use Rattle.law_callers.proofs.column_pieces.can_skip_pieces.Goals as goal

pub returns : goal.returns
returns c = λ skipped.
    let s = c.in_ok-statistics_of_pieces.field-0 in
    none_matches (formula c.args.filter.now) (known s) (cells_of_column c.args.first ++ cells_of_column c.args.second) c.in_ok-statistics_of_pieces.ensures.right (c.may_match.ensures.loses_nothing (skipped_no c.may_match.result skipped))
