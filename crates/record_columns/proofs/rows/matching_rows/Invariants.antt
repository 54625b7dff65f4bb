-- The records so far were read.
use Rattle.std.proofs.Common.{length}
use Rattle.vortex_filter.specs.Formula.{formula}
use Rattle.record_columns.proofs.RowSteps.{AreReadTo}
use Rattle.record_columns.proofs.rows.matching_rows.Given as goal

abbrev pub invariant-loop-rest : goal.invariant-loop-rest
invariant-loop-rest l = AreReadTo l.matcher.schema.now (formula l.matcher.filter.now) l.fn.place l.text l.rest l.rows.items l.here

abbrev pub decreases-loop-rest : goal.decreases-loop-rest
decreases-loop-rest l = length l.rest
