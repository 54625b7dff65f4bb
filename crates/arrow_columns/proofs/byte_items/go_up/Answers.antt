use Rattle.std.proofs.Common.{[], arith, ℕ, slice_index_or}
use Rattle.arrow_columns.specs.Offsets.{offset_of}
use Rattle.arrow_columns.proofs.OffsetItems.{no_longer, still_up}
use Rattle.arrow_columns.proofs.byte_items.go_up.Goals as goal
use Rattle.arrow_columns.proofs.byte_items.go_up.Goals.{else-stop-begin, then-stop-begin}

pub loop-i-preserved : goal.loop-i-preserved
loop-i-preserved g c =
    let O : ℕ → ℕ = λ i. offset_of g.T.Offset.width (slice_index_or c.args.offsets.now i []) in
    elim c.if-stop-begin.branch [
      | then-stop-begin w ↦ no_longer _ _ w.is_up-is
      | else-stop-begin w ↦ still_up c.loop-i.is_up _ O c.args.from c.loop-i.i w.is_up-is c.loop-i.invariant (omega (arith, c.read_offset-begin.ensures, c.read_offset-stop.ensures, w.if-stop-begin.false))
    ]
