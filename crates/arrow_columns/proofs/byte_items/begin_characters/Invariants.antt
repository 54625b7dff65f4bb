use Rattle.std.proofs.Common.{[], ◌<◌, ◌≤◌, ℕ, slice_index_or}
use Rattle.std.specs.Str.{IsCharBoundary}
use Rattle.arrow_columns.specs.Offsets.{offset_of}
use Rattle.arrow_columns.proofs.byte_items.begin_characters.Given as goal

abbrev pub invariant-loop-i : goal.invariant-loop-i
invariant-loop-i g l = (k : ℕ) → k < l.i → l.from ≤ k → IsCharBoundary l.text (offset_of g.T.Offset.width (slice_index_or l.offsets k []))
