-- The columns so far, as filters name them.
use Rattle.std.proofs.Common.{◌≡◌, take}
use Rattle.filter_sql.specs.ColumnNames.{column_trees}
use Rattle.file_search.specs.Sought.{trees_of_named}
use Rattle.file_search.proofs.sought.filter_columns.Given as goal

abbrev pub invariant-loop-column : goal.invariant-loop-column
invariant-loop-column l = column_trees l.named.items ≡ trees_of_named (take l.column-index l.columns)
