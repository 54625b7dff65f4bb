-- The bytes that were seen are of ASCII.
use Rattle.std.proofs.Common.{◌<◌, ℕ, get_or}
use Rattle.record_rows.proofs.ascii.is_short_ascii.Given as goal

abbrev pub invariant-loop-byte : goal.invariant-loop-byte
invariant-loop-byte l = (k : ℕ) → k < l.byte-index → get_or l.word k 0 < 128
