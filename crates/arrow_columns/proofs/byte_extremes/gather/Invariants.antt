use Rattle.std.proofs.Common.{[], ◌≡◌, ◌≤◌, ◌-◌, slice_index_or}
use Rattle.arrow_columns.specs.Cells.{cell_at}
use Rattle.arrow_columns.specs.Offsets.{bytes_between, offset_of}
use Rattle.arrow_columns.specs.Spans.{IsSpan}
use Rattle.arrow_columns.specs.Running.{IsBestAt, nulls_from}
use Rattle.arrow_columns.specs.Statistics.{NotAbove}
use Rattle.arrow_columns.proofs.byte_extremes.gather.Given as goal

abbrev pub invariant-loop-i : goal.invariant-loop-i
invariant-loop-i g l = record {
  nulls : l.null_count ≡ nulls_from (cell_at l.validity (bytes_between l.bytes (λ i. offset_of g.T.Offset.width (slice_index_or l.offsets i [])))) l.from (l.i - l.from);
  within : l.null_count ≤ l.i - l.from;
  least : IsBestAt NotAbove (cell_at l.validity (bytes_between l.bytes (λ i. offset_of g.T.Offset.width (slice_index_or l.offsets i [])))) (bytes_between l.bytes (λ i. offset_of g.T.Offset.width (slice_index_or l.offsets i []))) l.from l.i l.span.least;
  greatest : IsBestAt (λ x y. NotAbove y x) (cell_at l.validity (bytes_between l.bytes (λ i. offset_of g.T.Offset.width (slice_index_or l.offsets i [])))) (bytes_between l.bytes (λ i. offset_of g.T.Offset.width (slice_index_or l.offsets i []))) l.from l.i l.span.greatest;
  span : IsSpan l.span;
  low : l.span.low.now ≡ bytes_between l.bytes (λ i. offset_of g.T.Offset.width (slice_index_or l.offsets i [])) l.span.least;
  high : l.span.high.now ≡ bytes_between l.bytes (λ i. offset_of g.T.Offset.width (slice_index_or l.offsets i [])) l.span.greatest;
}
