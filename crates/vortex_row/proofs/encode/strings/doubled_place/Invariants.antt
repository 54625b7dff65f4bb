-- The bytes so far are written as they are.
use Rattle.std.proofs.Common.{◌≡◌, ◌++◌, take, drop}
use Rattle.vortex_row.specs.Keys.{escaped}
use Rattle.vortex_row.proofs.encode.strings.doubled_place.Given as goal

abbrev pub invariant-loop-place : goal.invariant-loop-place
invariant-loop-place l = escaped l.bytes ≡ take l.place l.bytes ++ escaped (drop l.place l.bytes)
