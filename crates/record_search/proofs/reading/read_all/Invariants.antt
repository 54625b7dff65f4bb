-- What was read of the columns so far, and what is still read.
use Rattle.std.proofs.Common.{◌≡◌, drop, map, take}
use Rattle.vortex_statistics.specs.Statistics.{known}
use Rattle.record_search.specs.Decoding.{columns_in}
use Rattle.record_search.proofs.ReadColumns.{with_front}
use Rattle.record_search.proofs.reading.read_all.Given as goal

abbrev pub invariant-loop-place : goal.invariant-loop-place
invariant-loop-place l = columns_in l.columns l.bytes ≡ with_front (map known (take l.place l.all)) (columns_in (drop l.place l.columns) l.rest)
