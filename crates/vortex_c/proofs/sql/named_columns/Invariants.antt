-- The columns so far, by name and type.
use Rattle.std.proofs.Common.{◌≡◌, take}
use Rattle.filter_sql.specs.ColumnNames.{column_trees}
use Rattle.vortex_c.specs.FilterSql.{trees_of_kinds}
use Rattle.vortex_c.proofs.sql.named_columns.Given as goal

abbrev pub invariant-loop-place : goal.invariant-loop-place
invariant-loop-place l = column_trees l.named.items ≡ trees_of_kinds (take l.place l.columns)
