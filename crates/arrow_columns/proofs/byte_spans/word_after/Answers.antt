use Rattle.std.proofs.Common.{◌∙◌, ◌*◌, ap}
use Rattle.std.proofs.lemmas.List.{take_rest}
use Rattle.arrow_columns.specs.Spans.{beginning}
use Rattle.arrow_columns.proofs.byte_spans.word_after.Goals as goal

pub returns : goal.returns
returns c = c.word_between.ensures ∙ ap (beginning 8) (take_rest c.args.value.now (8 * c.args.words))
