use Rattle.std.proofs.Common.{◌≡◌, ◌+◌, ◌-◌, ◌*◌, drop}
use Rattle.arrow_columns.specs.Casts.{AreWritten}
use Rattle.arrow_columns.specs.Integers.{cell_of_item}
use Rattle.arrow_columns.proofs.casts.write_by_bytes.Given as goal

abbrev pub invariant-loop-b : goal.invariant-loop-b
invariant-loop-b g l = record {
  written : AreWritten g.U.Integer.kind g.row.M (cell_of_item g.T.Item.kind l.span.validity.now l.span.items.now) l.span.from (8 * l.b) l.buffer;
  rest : drop ((8 * l.end_byte - l.span.from) * g.row.M) l.buffer ≡ drop ((8 * l.end_byte - l.span.from) * g.row.M) l.initial.buffer;
}

abbrev pub invariant-loop-j : goal.invariant-loop-j
invariant-loop-j g l = record {
  written : AreWritten g.U.Integer.kind g.row.M (cell_of_item g.T.Item.kind l.span.validity.now l.span.items.now) l.span.from (8 * l.b + l.j) l.buffer;
  rest : drop ((8 * l.end_byte - l.span.from) * g.row.M) l.buffer ≡ drop ((8 * l.end_byte - l.span.from) * g.row.M) l.initial.buffer;
}
