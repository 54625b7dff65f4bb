-- What the contracts of callers say of pieces of a column.
use Rattle.std.specs.Prelude.{◌≡◌, ℕ, ◌+◌, ◌<◌, List, ◌++◌, Some, length, slice_get, slice_index_or}
use Rattle.arrow_columns.specs.Columns.{rows_in}
use Rattle.arrow_columns.specs.declared.columns.Column.{Column}
use Rattle.column_cells.specs.Types.{type_of_column}
use Rattle.column_filters.specs.Tables.{IsSound}
use Rattle.column_filters.specs.Zones.{piece_at}
use Rattle.column_statistics.specs.Cells.{cells_of_column}
use Rattle.column_statistics.specs.Laws.{AreRightBytes}
use Rattle.filter_pruning.specs.Pruning.{column}
use Rattle.vortex_dtype.specs.TypeTree.{TypeTree, null_type}
use Rattle.vortex_cells.specs.Cells.{Cell}
use Rattle.vortex_statistics.specs.Statistics.{AreRight, known}
use Rattle.vortex_statistics.specs.declared.column_statistics.ColumnStatistics.{ColumnStatistics}

-- s is right for three pieces, one after another, whenever each of the statistics is right for its own
abbrev pub AreRightForThree : ColumnStatistics → ColumnStatistics → ColumnStatistics → ColumnStatistics → Type 0
AreRightForThree first second third s = (xs ys zs : List Cell) → AreRight (known first) xs → AreRight (known second) ys → AreRight (known third) zs → AreRight (known s) (xs ++ (ys ++ zs))

-- the piece of each column, from p on, is bytes that are right for the cells of the column in the rows
abbrev pub AreWrittenRight : List TypeTree → List ℕ → List ℕ → ℕ → List (List Cell) → Type 0
AreWrittenRight types bytes offsets p rows = (k : ℕ) → k < length types → AreRightBytes (slice_index_or types k null_type) (piece_at bytes offsets (p + k)) (column k rows)

-- each column can be read, and has as many rows as the first
abbrev pub AreEven : List Column → Type 0
AreEven columns = (k : ℕ) (c : Column) → slice_get columns k ≡ Some c → IsSound c (type_of_column c) (rows_in columns)

-- the piece of each of these columns, from p on, is bytes that are right for its cells
abbrev pub ArePiecesOf : List Column → List ℕ → List ℕ → ℕ → Type 0
ArePiecesOf columns bytes offsets p = (k : ℕ) (c : Column) → slice_get columns k ≡ Some c → AreRightBytes (type_of_column c) (piece_at bytes offsets (p + k)) (cells_of_column c)
