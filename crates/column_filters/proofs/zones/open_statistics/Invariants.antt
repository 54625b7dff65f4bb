-- Nothing is known of as many as counted.
use Rattle.std.proofs.Common.{◌≡◌, map, replicate}
use Rattle.statistics_bytes.specs.Pieces.{nothing_known}
use Rattle.vortex_statistics.specs.Statistics.{known}
use Rattle.column_filters.proofs.zones.open_statistics.Given as goal

abbrev pub invariant-loop-column : goal.invariant-loop-column
invariant-loop-column l = map known l.columns.items ≡ replicate l.column nothing_known
