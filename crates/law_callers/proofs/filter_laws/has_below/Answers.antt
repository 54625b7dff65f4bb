-- What the statistics claim, some cell of the zone has.
use Rattle.std.proofs.Common.{List, map, ap, ◌∙◌, slice_get}
use Rattle.vortex_cells.specs.Cells.{cell_of}
use Rattle.vortex_statistics.specs.Statistics.{known}
use Rattle.vortex_statistics.specs.declared.column_statistics.ColumnStatistics.{ColumnStatistics}
use Rattle.vortex_filter.specs.declared.operator.CompareOperator.TheVariants.{Lt}
use Rattle.vortex_filter.specs.declared.truth.Truth.TheVariants.{True}
use Rattle.filter_pruning.specs.OutcomeSets.{allows}
use Rattle.filter_pruning.specs.Outcomes.{compare_outcomes}
use Rattle.law_callers.specs.RowZones.{zone_of}
use Rattle.law_callers.proofs.FilterSteps.{occurring}
use Rattle.law_callers.proofs.filter_laws.has_below.Goals as goal

pub returns : goal.returns
returns c = occurring c.comparisons_occur.ensures (zone_of c.args.zone.now) c.requires.right c.args.column (cell_of c.args.literal) c.can_compare.result
    (c.can_compare.ensures.value ∙ ap (λ (ss : List ColumnStatistics). allows (compare_outcomes (slice_get (map known ss) c.args.column) Lt (cell_of c.args.literal)) True) c.deref.ensures.value)
