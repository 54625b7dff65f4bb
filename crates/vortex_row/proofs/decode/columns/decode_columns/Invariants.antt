-- The columns so far, of those of the row.
use Rattle.std.proofs.Common.{drop}
use Rattle.vortex_dtype.specs.TypeOf.{dtype_trees}
use Rattle.vortex_row.proofs.RowDecodeSteps.{ColumnsSoFar}
use Rattle.vortex_row.proofs.decode.columns.decode_columns.Given as goal

abbrev pub invariant-loop-column : goal.invariant-loop-column
invariant-loop-column l = ColumnsSoFar l.options (dtype_trees l.dtypes) l.scalars.items l.bytes (drop l.column l.options) (dtype_trees (drop l.column l.dtypes)) l.place
