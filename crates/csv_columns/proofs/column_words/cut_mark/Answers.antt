-- A question mark stands behind a word that has none.
use Rattle.std.proofs.Common.{◌∙◌, arith, None, Some, sym}
use Rattle.std.proofs.lemmas.List.{append-nil}
use Rattle.std.proofs.lemmas.Str.Pattern.{strip_suffix_char}
use Rattle.csv_columns.proofs.KindWords.{bare_text, marked_text}
use Rattle.csv_columns.proofs.column_words.cut_mark.Goals as goal

pub returns-in-Some-clause-back : goal.returns-in-Some-clause-back
returns-in-Some-clause-back c = λ kind n is.
    let cut = strip_suffix_char 63 c.args.text.now (Some c.in-Some.word) c.in-Some.ensures.cases (omega arith) in
    let parts = marked_text kind n c.in-Some.word.now (sym cut ∙ is) in
    (parts.0, sym parts.1)

pub returns-in-Some-clause-text : goal.returns-in-Some-clause-text
returns-in-Some-clause-text c = strip_suffix_char 63 c.args.text.now (Some c.in-Some.word) c.in-Some.ensures.cases (omega arith)

pub returns-in-None-clause-text : goal.returns-in-None-clause-text
returns-in-None-clause-text c = sym (append-nil c.args.text.now)

pub returns-in-None-clause-back : goal.returns-in-None-clause-back
returns-in-None-clause-back c = λ kind n is.
    let parts = bare_text kind n c.args.text.now (strip_suffix_char 63 c.args.text.now None c.in-None.ensures.cases (omega arith)) is in
    (parts.0, sym parts.1)
