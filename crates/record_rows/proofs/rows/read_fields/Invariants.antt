-- The fields so far.
use Rattle.std.proofs.Common.{◌-◌, ◌≤◌, length, take}
use Rattle.record_rows.proofs.Reading.{Begun}
use Rattle.record_rows.proofs.rows.read_fields.Given as goal

abbrev pub invariant-loop-buffer : goal.invariant-loop-buffer
invariant-loop-buffer l =
    Begun l.wanted l.schema.delimiter.byte l.schema.reading l.schema.columns.items l.text l.walk (take l.walk.place l.row.items) l.refused
    × (l.refused ≤ l.walk.place) × (l.walk.place ≤ length l.row.items) × (length l.row.items ≤ length l.schema.columns.items)

abbrev pub decreases-loop-buffer : goal.decreases-loop-buffer
decreases-loop-buffer l = length l.walk.columns.now - l.walk.place
