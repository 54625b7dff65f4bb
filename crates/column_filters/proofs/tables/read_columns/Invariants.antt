-- What was read of the columns so far.
use Rattle.std.proofs.Common.{◌≡◌, ◌≤◌, length, map}
use Rattle.std.specs.Vec.{vec_capacity, vec_len}
use Rattle.vortex_dtype.specs.TypeOf.{type_of}
use Rattle.vortex_filter.specs.Formula.{formula}
use Rattle.column_filters.specs.Tables.{AreReadFrom, AreSoundBefore}
use Rattle.column_filters.proofs.tables.read_columns.Given as goal

abbrev pub invariant-loop-place : goal.invariant-loop-place
invariant-loop-place l =
    AreReadFrom (formula l.filter) l.columns l.count l.place l.table.items × AreSoundBefore (formula l.filter) l.columns (map type_of l.types) l.count l.place × (vec_len l.table ≡ l.place) × (length l.columns ≤ vec_capacity l.table)
