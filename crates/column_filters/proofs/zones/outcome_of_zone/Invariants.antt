-- What is known of the columns so far.
use Rattle.vortex_filter.specs.Formula.{formula}
use Rattle.column_filters.proofs.ZoneSteps.{AreReadTo}
use Rattle.column_filters.proofs.zones.outcome_of_zone.Given as goal

abbrev pub invariant-loop-column : goal.invariant-loop-column
invariant-loop-column l = AreReadTo (formula l.filter) l.types l.statistics l.offsets l.first l.column l.read
