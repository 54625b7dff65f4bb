-- A null is no word; another field is one.
use Rattle.std.proofs.Common.{◌∙◌, sym}
use Rattle.csv_columns.specs.Guesses.{field_of}
use Rattle.csv_columns.proofs.Columns.{null_passed, word_seen}
use Rattle.csv_columns.proofs.guessing.guess_after.Goals as goal

pub returns-then-is_null : goal.returns-then-is_null
returns-then-is_null c = λ words sees.
    null_passed c.args.reading.now (field_of c.args.field.now) c.args.guess words (sym c.is_null.ensures ∙ c.if-is_null.true) sees

pub returns-else-is_null : goal.returns-else-is_null
returns-else-is_null c = λ words sees.
    word_seen c.args.reading.now (field_of c.args.field.now) c.after.result words (sym c.is_null.ensures ∙ c.if-is_null.false) (c.after.ensures words sees)
