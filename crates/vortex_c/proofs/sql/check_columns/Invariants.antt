-- The columns so far have a kind and a name.
use Rattle.vortex_c.specs.FilterSql.{AreNamedBefore}
use Rattle.vortex_c.proofs.sql.check_columns.Given as goal

abbrev pub invariant-loop-place : goal.invariant-loop-place
invariant-loop-place l = AreNamedBefore l.columns l.place
