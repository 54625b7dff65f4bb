-- At none of the bytes that were seen a field ends.
use Rattle.std.proofs.Common.{◌≤◌, ◌+◌, ◌-◌}
use Rattle.memchr.specs.Find.{Nowhere, Passes, is_byte3}
use Rattle.csv_records.proofs.ends.first_end.Given as goal

abbrev pub invariant-loop-place : goal.invariant-loop-place
invariant-loop-place l = Nowhere (Passes (is_byte3 l.delimiter.byte 13 10) l.text) 0 l.place × (l.place ≤ l.last + 16)

abbrev pub decreases-loop-place : goal.decreases-loop-place
decreases-loop-place l = l.last + 16 - l.place
