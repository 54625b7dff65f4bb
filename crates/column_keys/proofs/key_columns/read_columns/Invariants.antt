-- What was read of the columns so far.
use Rattle.std.proofs.Common.{◌≡◌, length}
use Rattle.std.specs.Vec.{vec_capacity, vec_len}
use Rattle.std.proofs.Common.{◌≤◌}
use Rattle.column_keys.specs.Tables.{AreReadFrom, AreSoundBefore}
use Rattle.column_keys.proofs.key_columns.read_columns.Given as goal

abbrev pub invariant-loop-place : goal.invariant-loop-place
invariant-loop-place l =
    AreReadFrom l.columns l.options l.place l.table.items × AreSoundBefore l.columns l.options l.place × (vec_len l.table ≡ l.place) × (length l.columns ≤ vec_capacity l.table)
