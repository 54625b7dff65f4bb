-- None that is wanted stands behind.
use Rattle.std.proofs.Common.{◌≡◌, ◌<◌, ◌≤◌, ℕ, true}
use Rattle.record_rows.specs.Rows.{is_wanted}
use Rattle.record_rows.proofs.wanted.through_wanted.Given as goal

abbrev pub invariant-loop-count : goal.invariant-loop-count
invariant-loop-count l = record {
  few : l.count ≤ l.columns;
  past : (k : ℕ) → is_wanted l.wanted k ≡ true → k < l.columns → k < l.count;
}

abbrev pub decreases-loop-count : goal.decreases-loop-count
decreases-loop-count l = l.count
