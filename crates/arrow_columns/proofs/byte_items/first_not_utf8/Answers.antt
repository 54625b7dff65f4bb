use Rattle.std.proofs.Common.{[], ◌<◌, ◌≤◌, ℕ, IsUtf8, slice_index_or}
use Rattle.arrow_columns.specs.Offsets.{bytes_between, offset_of}
use Rattle.arrow_columns.proofs.SpanSteps.{on_true}
use Rattle.arrow_columns.proofs.byte_items.first_not_utf8.Goals as goal

pub returns-then-are_utf8 : goal.returns-then-are_utf8
returns-then-are_utf8 g c = λ k l f v.
    on_true c.are_utf8.result ((k : ℕ) → k < c.args.end → c.args.from ≤ k → IsUtf8 (bytes_between c.args.bytes.now (λ i. offset_of g.T.Offset.width (slice_index_or c.args.offsets.now i [])) k)) c.are_utf8.ensures c.if-are_utf8.true k l f
