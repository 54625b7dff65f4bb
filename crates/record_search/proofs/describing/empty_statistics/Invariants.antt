-- The statistics so far are of no rows, and there are as many as turns.
use Rattle.std.proofs.Common.{◌≡◌, [], length}
use Rattle.record_search.specs.Searched.{AreAllComplete}
use Rattle.record_search.proofs.describing.empty_statistics.Given as goal

abbrev pub invariant-loop : goal.invariant-loop
invariant-loop l = (length l.all.items ≡ l.counter) × AreAllComplete 0 [] l.all.items
