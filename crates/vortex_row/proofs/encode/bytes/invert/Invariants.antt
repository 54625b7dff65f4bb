-- What was passed is inverted round, and what is to come is as it was.
use Rattle.std.proofs.Common.{◌≡◌, ◌++◌, true, take, drop}
use Rattle.vortex_row.specs.Keys.{inverted}
use Rattle.vortex_row.proofs.encode.bytes.invert.Given as goal

abbrev pub invariant-loop-byte : goal.invariant-loop-byte
invariant-loop-byte l = l.bytes ≡ inverted true (take l.byte-index l.initial.bytes) ++ drop l.byte-index l.initial.bytes
