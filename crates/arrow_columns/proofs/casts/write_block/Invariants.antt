use Rattle.std.proofs.Common.{[], ◌≡◌, ℕ, ◌+◌, ◌-◌, ◌*◌, ◌<◌, drop, length, slice_index_or}
use Rattle.arrow_columns.specs.Casts.{AreWritten}
use Rattle.arrow_columns.specs.Integers.{cell_of_item, integer_of, number_of}
use Rattle.arrow_columns.proofs.casts.write_block.Given as goal

abbrev pub invariant-loop-j : goal.invariant-loop-j
invariant-loop-j g l = record {
  long : length l.block ≡ 16;
  read : (k : ℕ) → k < l.j → integer_of g.U.Integer.kind (slice_index_or l.block k []) ≡ number_of g.T.Item.kind (slice_index_or l.span.items.now (l.start + k) []);
}

abbrev pub invariant-loop-k : goal.invariant-loop-k
invariant-loop-k g l = record {
  written : AreWritten g.U.Integer.kind g.row.M (cell_of_item g.T.Item.kind [] l.span.items.now) l.span.from (l.start + l.k) l.buffer;
  rest : drop ((l.start + 16 - l.span.from) * g.row.M) l.buffer ≡ drop ((l.start + 16 - l.span.from) * g.row.M) l.initial.buffer;
}
