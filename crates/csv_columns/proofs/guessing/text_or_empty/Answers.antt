-- A word that is a text, and one that is none.
use Rattle.std.proofs.Common.{[], ◌∙◌, sym}
use Rattle.std.proofs.lemmas.Bool.{cond-false, cond-true, false_from_ne_true}
use Rattle.std.proofs.lemmas.Str.{IsUtf8-from_is_utf8, is_utf8-from_IsUtf8}
use Rattle.std.specs.Str.{is_utf8}
use Rattle.csv_columns.proofs.guessing.text_or_empty.Goals as goal

pub returns-in-Ok : goal.returns-in-Ok
returns-in-Ok c =
    let word = c.args.word.now in
    c.in-Ok.ensures.cases.0 ∙ sym (cond-true (is_utf8 word) word [] (is_utf8-from_IsUtf8 word c.in-Ok.ensures.cases.1))

pub returns-in-Err : goal.returns-in-Err
returns-in-Err c =
    let word = c.args.word.now in
    sym (cond-false (is_utf8 word) word [] (false_from_ne_true (is_utf8 word) (λ e. c.in-Err.ensures.cases.0 (IsUtf8-from_is_utf8 word e))))
