use Rattle.std.proofs.Common.{◌∙◌}
use Rattle.arrow_columns.proofs.SpanSteps.{eight_at}
use Rattle.arrow_columns.proofs.byte_spans.word_at.Goals as goal

pub returns : goal.returns
returns c = c.from_be_bytes.ensures ∙ eight_at c.args.at c.args.bytes.now
