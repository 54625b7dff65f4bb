use Rattle.std.proofs.Common.{◌*◌, length}
use Rattle.truth_bitmaps.proofs.RowSteps.{Told}
use Rattle.truth_bitmaps.proofs.rows.write_rows.Given as goal

abbrev pub invariant-loop-k : goal.invariant-loop-k
invariant-loop-k g l = Told (λ row b. goal.F-post g l.holds row b) (length l.fn.words) (64 * l.k) l.words
