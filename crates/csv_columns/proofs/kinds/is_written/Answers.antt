-- What is read is what the word writes.
use Rattle.std.proofs.Common.{◌∙◌}
use Rattle.csv_columns.proofs.GuessLaws.{written_is}
use Rattle.csv_columns.proofs.kinds.is_written.Goals as goal

pub returns : goal.returns
returns c =
    c.is_some.ensures ∙ written_is c.args.logical c.args.word.now c.storage_of_word.result c.storage_of_word.ensures.some c.storage_of_word.ensures.none c.shapes_say_words.ensures
