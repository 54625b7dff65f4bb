-- Statistics as the code reads them.
use Rattle.std.proofs.Common.{◌≡◌, ℕ, List, map, slice_get, option_map}
use Rattle.std.proofs.lemmas.Option.{slice_get-map}
use Rattle.vortex_statistics.specs.Statistics.{known}
use Rattle.vortex_statistics.specs.declared.column_statistics.ColumnStatistics.{ColumnStatistics}

-- the statistics of a column, by those that stand there
pub known_is : (ss : List ColumnStatistics) (k : ℕ) → slice_get (map known ss) k ≡ option_map known (slice_get ss k)
known_is ss k = slice_get-map known ss k
