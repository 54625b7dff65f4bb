-- The fields so far are observed.
use Rattle.std.proofs.Common.{◌-◌, ◌≤◌, length}
use Rattle.record_rows.specs.Observed.{HaveTypes}
use Rattle.record_rows.proofs.ObservedFields.{Begun}
use Rattle.record_rows.proofs.observing.observe_fields.Given as goal

abbrev pub invariant-loop-field : goal.invariant-loop-field
invariant-loop-field l =
    Begun l.schema.delimiter.byte l.schema.reading l.schema.columns.items l.text l.walk l.initial.statistics l.statistics l.refused
    × (l.refused ≤ l.walk.place)
    × HaveTypes l.schema.columns.items l.statistics

abbrev pub decreases-loop-field : goal.decreases-loop-field
decreases-loop-field l = length l.walk.columns.now - l.walk.place
