use Rattle.std.proofs.Common.{◌≡◌, ◌<◌, ℕ}
use Rattle.arrow_columns.specs.Spans.{IsSpan}
use Rattle.vortex_bounds.specs.Strings.{NotAbove}
use Rattle.vortex_c.specs.ColumnBounds.{value_at}
use Rattle.vortex_c.proofs.column_bounds.find_extremes.Given as goal

-- the places are those of the least and of the greatest of the first k values
abbrev pub invariant-loop-k : goal.invariant-loop-k
invariant-loop-k l = record {
  span : IsSpan l.span;
  least_is : l.span.least < l.k;
  greatest_is : l.span.greatest < l.k;
  low : l.span.low.now ≡ value_at l.bytes l.offsets l.span.least;
  high : l.span.high.now ≡ value_at l.bytes l.offsets l.span.greatest;
  least_of : (j : ℕ) → j < l.k → NotAbove (value_at l.bytes l.offsets l.span.least) (value_at l.bytes l.offsets j);
  greatest_of : (j : ℕ) → j < l.k → NotAbove (value_at l.bytes l.offsets j) (value_at l.bytes l.offsets l.span.greatest);
}
