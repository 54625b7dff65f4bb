-- The bytes that are left lead on to where all lead.
use Rattle.std.proofs.Common.{◌≡◌, length}
use Rattle.csv_records.specs.Records.{state_at}
use Rattle.csv_records.specs.Rows.{state_after}
use Rattle.csv_records.proofs.states.state_after_all.Given as goal

abbrev pub invariant-loop-delimiter : goal.invariant-loop-delimiter
invariant-loop-delimiter l = state_after l.delimiter.byte (state_at l.state) l.rest ≡ state_after l.delimiter.byte (state_at l.initial.state) l.bytes

abbrev pub decreases-loop-delimiter : goal.decreases-loop-delimiter
decreases-loop-delimiter l = length l.rest
