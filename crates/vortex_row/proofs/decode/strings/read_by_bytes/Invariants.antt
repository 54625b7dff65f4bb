-- The bytes so far are those that were read; each turn takes one or two.
use Rattle.std.proofs.Common.{◌≡◌, ◌++◌, length}
use Rattle.vortex_row.specs.Held.{AreBytes}
use Rattle.vortex_row.specs.Reading.{left}
use Rattle.vortex_row.proofs.StringSteps.{escaped_bytes}
use Rattle.vortex_row.proofs.decode.strings.read_by_bytes.Given as goal

abbrev pub invariant-loop-bytes : goal.invariant-loop-bytes
invariant-loop-bytes l = AreBytes l.bytes.items × (left l.initial.reader ≡ escaped_bytes l.bytes.items ++ left l.reader)

abbrev pub decreases-loop-bytes : goal.decreases-loop-bytes
decreases-loop-bytes l = length (left l.reader)
