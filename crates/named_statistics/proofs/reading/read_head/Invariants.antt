use Rattle.std.proofs.Common.{◌≡◌, ◌≤◌, length, take}
use Rattle.named_statistics.proofs.reading.read_head.Given as goal

abbrev pub invariant-loop-offset : goal.invariant-loop-offset
invariant-loop-offset l = (l.offset ≤ length l.bytes) × (take l.offset l.bytes ≡ take l.offset l.head)
