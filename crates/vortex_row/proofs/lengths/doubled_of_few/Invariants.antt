-- What was counted, with the length of the rest, is the length of the whole.
use Rattle.std.proofs.Common.{◌≡◌, ◌+◌, ◌≤◌, length, drop}
use Rattle.vortex_row.specs.Keys.{escaped}
use Rattle.vortex_row.proofs.lengths.doubled_of_few.Given as goal

abbrev pub invariant-loop-byte : goal.invariant-loop-byte
invariant-loop-byte l =
    (l.doubled ≤ l.byte-index) × (l.byte-index + l.doubled + length (escaped (drop l.byte-index l.bytes)) ≡ length (escaped l.bytes))
