use Rattle.std.proofs.Common.{[], slice_index_or}
use Rattle.std.specs.Bool.{OnTrue}
use Rattle.arrow_columns.specs.Offsets.{GoUp, offset_of}
use Rattle.arrow_columns.proofs.byte_items.go_up.Given as goal

abbrev pub invariant-loop-i : goal.invariant-loop-i
invariant-loop-i g l = OnTrue l.is_up (GoUp (λ i. offset_of g.T.Offset.width (slice_index_or l.offsets i [])) l.from l.i)
