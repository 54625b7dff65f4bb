use Rattle.std.proofs.Common.{[], ◌≡◌, ℕ, ◌<◌, ◌≤◌, IsUtf8, slice_index_or, true}
use Rattle.arrow_columns.specs.Bitmaps.{is_valid}
use Rattle.arrow_columns.specs.Offsets.{bytes_between, offset_of}
use Rattle.arrow_columns.proofs.byte_items.first_not_utf8.Given as goal

abbrev pub invariant-loop-i : goal.invariant-loop-i
invariant-loop-i g l = (k : ℕ) → k < l.i → l.from ≤ k → is_valid l.validity k ≡ true → IsUtf8 (bytes_between l.bytes (λ i. offset_of g.T.Offset.width (slice_index_or l.offsets i [])) k)
