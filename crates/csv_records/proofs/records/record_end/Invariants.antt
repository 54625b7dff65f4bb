-- The lines so far belong to the first record.
use Rattle.std.proofs.Common.{◌-◌, length}
use Rattle.csv_records.specs.Records.{state_at}
use Rattle.csv_records.proofs.Cutting.{Passed}
use Rattle.csv_records.proofs.records.record_end.Given as goal

abbrev pub invariant-loop-feed : goal.invariant-loop-feed
invariant-loop-feed l = Passed l.delimiter.byte l.text l.end (state_at l.state)

abbrev pub decreases-loop-feed : goal.decreases-loop-feed
decreases-loop-feed l = length l.text - l.end
