-- The fields so far.
use Rattle.std.proofs.Common.{◌-◌, ◌≤◌, length, take}
use Rattle.record_rows.proofs.Wanting.{IsPut}
use Rattle.record_rows.proofs.wanted.put_wanted.Given as goal

abbrev pub invariant-loop-walk : goal.invariant-loop-walk
invariant-loop-walk l =
    IsPut l.wanted l.schema.delimiter.byte l.schema.reading l.schema.columns.items l.text l.walk (take l.walk.place l.row.items)
    × (l.walk.place ≤ length l.row.items) × (length l.row.items ≤ length l.schema.columns.items)

abbrev pub decreases-loop-walk : goal.decreases-loop-walk
decreases-loop-walk l = l.count - l.walk.place
