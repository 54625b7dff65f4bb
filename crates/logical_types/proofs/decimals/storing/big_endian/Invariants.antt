use Rattle.std.proofs.Common.{◌≡◌, ◌<◌, ◌^◌, take}
use Rattle.std.specs.Int.{bytes_high_first}
use Rattle.logical_types.proofs.decimals.storing.big_endian.Given as goal

abbrev pub invariant-loop-byte : goal.invariant-loop-byte
invariant-loop-byte l = (bytes_high_first l.byte-index l.value ≡ take l.byte-index l.bytes) × (l.value < 256 ^ l.byte-index)
