-- The statistics are those of the values so far, and valid if all values are.
use Rattle.std.proofs.Common.{◌≡◌, fold, map, take}
use Rattle.std.specs.List.{All}
use Rattle.vortex_cells.specs.Cells.{cell_of}
use Rattle.vortex_value.specs.Values.Scalars.{IsValid}
use Rattle.vortex_statistics.specs.Merging.{nothing}
use Rattle.vortex_statistics.specs.Observing.{observed}
use Rattle.vortex_statistics.specs.Statistics.{AreComplete, HasValidBounds, known}
use Rattle.vortex_statistics.proofs.column_statistics.ColumnStatistics.of.Given as goal

abbrev pub invariant-loop-value : goal.invariant-loop-value
invariant-loop-value l = record {
  value : known l.statistics ≡ fold observed nothing (map cell_of (take l.value-index l.values));
  complete : AreComplete (known l.statistics) (map cell_of (take l.value-index l.values));
  valid : All IsValid l.values → HasValidBounds l.statistics;
}
