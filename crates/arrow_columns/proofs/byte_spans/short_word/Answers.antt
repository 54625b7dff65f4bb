use Rattle.arrow_columns.proofs.SpanSteps.{eight_given}
use Rattle.arrow_columns.proofs.byte_spans.short_word.Goals as goal

pub returns : goal.returns
returns c =
    eight_given c.args.value.now _ _ _ _ _ _ _ _ _ c.from_be_bytes.ensures c.byte_or_zero.ensures c.byte_or_zero-2.ensures c.byte_or_zero-3.ensures c.byte_or_zero-4.ensures c.byte_or_zero-5.ensures c.byte_or_zero-6.ensures c.byte_or_zero-7.ensures
    c.byte_or_zero-8.ensures
