-- What the pieces that are left make of the total is what all pieces make, and so are the rows. The total is valid if all pieces
-- are.
use Rattle.std.proofs.Common.{◌≡◌, ◌+◌, ◌<◌, ◌^◌, fold, map}
use Rattle.std.specs.List.{All}
use Rattle.vortex_statistics.specs.Merging.{merged, nothing, rows_of}
use Rattle.vortex_statistics.specs.Statistics.{HasValidBounds, known}
use Rattle.vortex_statistics.proofs.column_statistics.ColumnStatistics.merge_all.Given as goal

abbrev pub invariant-loop-piece : goal.invariant-loop-piece
invariant-loop-piece l = record {
  merged : fold merged (known l.total) (map known l.piece-iterator.rest.items) ≡ fold merged nothing (map known l.fn.pieces.items);
  rows : l.total.row_count + rows_of l.piece-iterator.rest.items ≡ rows_of l.fn.pieces.items;
  fits : l.total.row_count < 2 ^ 64;
  valid : All HasValidBounds l.fn.pieces.items → HasValidBounds l.total × All HasValidBounds l.piece-iterator.rest.items;
}
