use Rattle.std.proofs.Common.{◌∙◌, ◌+◌, ap, drop, length, slice_range, sym}
use Rattle.std.proofs.lemmas.Bool.{le-leb}
use Rattle.std.proofs.lemmas.Slice.Eq.{bytes_eq-Decides}
use Rattle.arrow_columns.proofs.SpanSteps.{bytes_after}
use Rattle.arrow_columns.specs.Spans.{beginning}
use Rattle.column_kernels.proofs.NeedleSteps.{long-there, rest-is, short-there}
use Rattle.column_kernels.proofs.needles.Needle.is_at.Goals as goal

pub returns-then-size-le8 : goal.returns-then-size-le8
returns-then-size-le8 c =
    let xs = c.args.bytes.now in
    let place = c.args.place in
    let front = c.has_front-begins.ensures (drop place xs) (bytes_after place xs c.items_are_bytes.ensures) (c.word_between.ensures ∙ ap (beginning 8) (rest-is xs place)) in
    short-there c.args.self.now xs place c.args.fits c.has_front-begins.result c.items_are_bytes.ensures c.requires.fits front _ (le-leb _ _ c.if-size-le8.true) c.if-fits-begins.true c.if-size-le8.true

pub returns-else-size-le8 : goal.returns-else-size-le8
returns-else-size-le8 c =
    let xs = c.args.bytes.now in
    let place = c.args.place in
    let needle = c.args.self.now in
    let front = c.has_front-begins.ensures (drop place xs) (bytes_after place xs c.items_are_bytes.ensures) (c.word_between.ensures ∙ ap (beginning 8) (rest-is xs place)) in
    let decides = bytes_eq-Decides (slice_range xs (place + 8) (place + length needle.bytes.now)) (slice_range needle.bytes.now 8 (length needle.bytes.now)) in
    long-there needle xs place c.args.fits c.has_front-begins.result c.items_are_bytes.ensures c.requires.fits front _ c.if-fits-begins.true c.if-size-le8.false (λ e. decides.0 (sym c.eq.ensures ∙ e), λ e. c.eq.ensures ∙ decides.1 e)
