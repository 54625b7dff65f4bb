use Rattle.std.proofs.Common.{◌*◌}
use Rattle.arrow_columns.proofs.SpanSteps.{above_by_word, below_by_word}
use Rattle.arrow_columns.proofs.byte_spans.is_below_by_word.Goals as goal

pub returns-then-one_word-other_word : goal.returns-then-one_word-other_word
returns-then-one_word-other_word c = below_by_word (8 * c.args._words) c.args.one_word c.args.other_word c.args.one.now c.args.other.now c.items_are_bytes-2.ensures c.requires.alike c.requires.one c.requires.other c.if-one_word-other_word.true

pub returns-then-other_word-one_word : goal.returns-then-other_word-one_word
returns-then-other_word-one_word c = above_by_word (8 * c.args._words) c.args.one_word c.args.other_word c.args.one.now c.args.other.now c.items_are_bytes.ensures c.requires.alike c.requires.one c.requires.other c.if-other_word-one_word.true
