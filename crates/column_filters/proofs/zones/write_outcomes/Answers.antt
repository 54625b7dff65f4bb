-- The zone that is refused.
use Rattle.std.proofs.Common.{length}
use Rattle.vortex_filter.specs.Formula.{formula}
use Rattle.column_filters.proofs.ZoneSteps.{zones_refused}
use Rattle.column_filters.proofs.zones.write_outcomes.Goals as goal

pub returns-in_err-outcomes-clause-refused : goal.returns-in_err-outcomes-clause-refused
returns-in_err-outcomes-clause-refused c =
    zones_refused (formula c.args.filter.now) c.args.types.now c.args.statistics.now c.args.offsets.now (length c.args.outcomes.now) c.loop-zone.zone c.loop-zone.piece c.loop-zone.outcomes _ _ c.from_residual-in_err-outcomes.ensures c.requires c.loop-zone-test.true
    c.loop-zone.invariant.1 c.loop-zone.invariant.3 c.in_err-outcomes.ensures.refused
