-- The bytes that were seen are of ASCII.
use Rattle.std.proofs.Common.{◌≤◌, ◌<◌, ◌+◌, ◌-◌, ℕ, get_or}
use Rattle.record_rows.proofs.ascii.is_ascii.Given as goal

abbrev pub invariant-loop-place : goal.invariant-loop-place
invariant-loop-place l = ((k : ℕ) → k < l.place → get_or l.word k 0 < 128) × (l.place ≤ l.last + 16)

abbrev pub decreases-loop-place : goal.decreases-loop-place
decreases-loop-place l = l.last + 16 - l.place
