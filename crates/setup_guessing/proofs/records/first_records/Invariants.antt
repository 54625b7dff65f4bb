-- So many records so far.
use Rattle.std.proofs.Common.{◌≤◌, ◌-◌, drop, length, take}
use Rattle.setup_guessing.proofs.Fronts.{IsFrontSoFar}
use Rattle.setup_guessing.proofs.records.first_records.Given as goal

abbrev pub invariant-loop-taken : goal.invariant-loop-taken
invariant-loop-taken l = (l.end ≤ length l.text) × (l.taken ≤ l.count) × IsFrontSoFar l.delimiter.byte l.is_all l.text (take l.end l.text) (drop l.end l.text) l.taken

abbrev pub decreases-loop-taken : goal.decreases-loop-taken
decreases-loop-taken l = l.count - l.taken
