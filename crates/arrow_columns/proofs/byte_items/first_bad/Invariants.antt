use Rattle.std.proofs.Common.{[], slice_index_or}
use Rattle.arrow_columns.specs.Offsets.{AreRows, offset_of}
use Rattle.arrow_columns.proofs.byte_items.first_bad.Given as goal

abbrev pub invariant-loop-i : goal.invariant-loop-i
invariant-loop-i g l = AreRows g.T.Offset.width l.bytes (λ i. offset_of g.T.Offset.width (slice_index_or l.offsets i [])) l.from l.i
