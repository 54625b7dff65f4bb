use Rattle.std.proofs.Common.{◌≡◌, ◌-◌, ◌*◌, drop}
use Rattle.arrow_columns.specs.Casts.{AreWritten}
use Rattle.arrow_columns.specs.Integers.{cell_of_item}
use Rattle.arrow_columns.proofs.casts.write_by_rows.Given as goal

abbrev pub invariant-loop-i : goal.invariant-loop-i
invariant-loop-i g l = record {
  written : AreWritten g.U.Integer.kind g.row.M (cell_of_item g.T.Item.kind l.span.validity.now l.span.items.now) l.span.from l.i l.buffer;
  rest : drop ((l.span.end - l.span.from) * g.row.M) l.buffer ≡ drop ((l.span.end - l.span.from) * g.row.M) l.initial.buffer;
}
