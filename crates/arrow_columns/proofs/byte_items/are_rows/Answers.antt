use Rattle.std.proofs.Common.{[], arith, ℕ, slice_index_or}
use Rattle.arrow_columns.specs.Offsets.{AreRows, GoUp, offset_of}
use Rattle.arrow_columns.proofs.OffsetItems.{weaker}
use Rattle.arrow_columns.proofs.byte_items.are_rows.Goals as goal

pub returns : goal.returns
returns g c =
    let O : ℕ → ℕ = λ i. offset_of g.T.Offset.width (slice_index_or c.args.offsets.now i []) in
    weaker c.go_up.result (GoUp O c.args.from c.args.end) (AreRows g.T.Offset.width c.args.bytes.now O c.args.from c.args.end) c.go_up.ensures
    (λ up k l f. (
      (up k l f).0,
      omega (arith, (up k l f).1, c.read_offset-last.ensures, c.if-limit-last.false, c.min-limit.ensures),
      omega (arith, (up k l f).1, c.read_offset-last.ensures, c.if-limit-last.false, c.min-limit.ensures, c.largest.ensures),
    ))
