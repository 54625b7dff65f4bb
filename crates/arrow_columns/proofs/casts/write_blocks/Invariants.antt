use Rattle.std.proofs.Common.{[], ◌≡◌, ◌+◌, ◌*◌, drop}
use Rattle.arrow_columns.specs.Casts.{AllFit, AreWritten}
use Rattle.arrow_columns.specs.Integers.{cell_of_item}
use Rattle.arrow_columns.proofs.casts.write_blocks.Given as goal

abbrev pub invariant-loop-b : goal.invariant-loop-b
invariant-loop-b g l = record {
  fit : AllFit g.U.Integer.kind (cell_of_item g.T.Item.kind [] l.span.items.now) l.span.from (l.span.from + 16 * l.b);
  written : AreWritten g.U.Integer.kind g.row.M (cell_of_item g.T.Item.kind [] l.span.items.now) l.span.from (l.span.from + 16 * l.b) l.buffer;
  rest : drop (16 * l.b * g.row.M) l.buffer ≡ drop (16 * l.b * g.row.M) l.initial.buffer;
}
