-- The kind of the word, and whether a question mark stands behind it.
use Rattle.std.proofs.Common.{◌∙◌, ◌++◌, List, ℕ, ap, sym}
use Rattle.csv_columns.specs.Setups.{mark_of}
use Rattle.csv_columns.proofs.Clear.{none_is_not, some_same}
use Rattle.csv_columns.proofs.KindWords.{same_column}
use Rattle.csv_columns.proofs.column_words.column_of.Goals as goal

pub returns-in-Some-clause-back : goal.returns-in-Some-clause-back
returns-in-Some-clause-back c = λ column is.
    let parts = c.cut_mark-nullability.ensures.back column.kind column.nullability is in
    same_column column c.in-Some.kind c.cut_mark-nullability.result.1 (sym (some_same c.in-Some.kind column.kind (c.in-Some.ensures.back column.kind parts.0))) (sym parts.1)

pub returns-in-Some-clause-text : goal.returns-in-Some-clause-text
returns-in-Some-clause-text c =
    c.cut_mark-nullability.ensures.text ∙ ap (λ (x : List ℕ). x ++ mark_of c.cut_mark-nullability.result.1) c.in-Some.ensures.word

pub returns-in-None-clause-back : goal.returns-in-None-clause-back
returns-in-None-clause-back c = λ column is.
    let parts = c.cut_mark-nullability.ensures.back column.kind column.nullability is in
    absurd (none_is_not column.kind (c.in-None.ensures.back column.kind parts.0))
