-- The hash of the bytes so far.
use Rattle.std.proofs.Common.{◌≡◌, take}
use Rattle.std.specs.List.{fold}
use Rattle.membership.specs.Xxh64.{with_byte}
use Rattle.membership.proofs.hashing.hash_bytes.Given as goal

abbrev pub invariant-loop-byte : goal.invariant-loop-byte
invariant-loop-byte l = l.hash ≡ fold with_byte l.initial.hash (take l.byte-index l.bytes)
