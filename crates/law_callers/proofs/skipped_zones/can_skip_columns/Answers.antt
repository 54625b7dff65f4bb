-- The rows of columns are those that their pieces are right for.
use Rattle.std.proofs.Common.{map}
use Rattle.column_cells.specs.Types.{type_of_column}
use Rattle.column_filters.specs.Tables.{cells_of_columns}
use Rattle.law_callers.proofs.ColumnRows.{all_rows, among_rows, rows_right}
use Rattle.law_callers.proofs.skipped_zones.can_skip_columns.Goals as goal

pub returns : goal.returns
returns c = λ f columns bytes offsets p even pieces is row within skipped.
    c.can_skip_written.ensures f (map type_of_column columns) bytes offsets p is (all_rows columns) (rows_right columns bytes offsets p even pieces) (cells_of_columns columns row) (among_rows columns row within) skipped
