use Rattle.std.proofs.Common.{[], ℕ, ◌+◌, ◌<◌, slice_index_or}
use Rattle.std.specs.Bool.{OnTrue}
use Rattle.arrow_columns.specs.Integers.{IsOfKind, number_of}
use Rattle.arrow_columns.proofs.casts.block_fits.Given as goal

abbrev pub invariant-loop-j : goal.invariant-loop-j
invariant-loop-j g l = OnTrue l.fits ((j : ℕ) → j < l.j → IsOfKind g.U.Integer.kind (number_of g.T.Item.kind (slice_index_or l.span.items.now (l.start + j) [])))
