-- The columns so far are sound.
use Rattle.column_keys.specs.Tables.{AreSoundBefore}
use Rattle.column_keys.proofs.key_columns.expect_columns.Given as goal

abbrev pub invariant-loop-place : goal.invariant-loop-place
invariant-loop-place l = AreSoundBefore l.columns l.options l.place
