-- What was written, and what is left of the string.
use Rattle.std.proofs.Common.{◌≡◌, ◌≤◌, ◌*◌, ◌++◌, drop, length, take}
use Rattle.vortex_row.specs.Keys.{escaped}
use Rattle.vortex_row.proofs.encode.strings.put_few.Given as goal

abbrev pub invariant-loop-byte : goal.invariant-loop-byte
invariant-loop-byte l =
    (take l.place l.made ++ escaped (drop l.byte-index l.bytes) ≡ escaped l.bytes) × (l.place ≤ 2 * l.byte-index) × (length l.made ≡ 66)
