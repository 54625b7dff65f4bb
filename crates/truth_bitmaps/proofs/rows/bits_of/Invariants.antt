use Rattle.std.proofs.Common.{◌+◌}
use Rattle.truth_bitmaps.proofs.RowSteps.{Tested}
use Rattle.truth_bitmaps.proofs.rows.bits_of.Given as goal

abbrev pub invariant-loop-row : goal.invariant-loop-row
invariant-loop-row g l = Tested (λ row b. goal.F-post g l.holds (l.from + row) b) l.row l.tests
