-- What the lexer gives and what is read of its tokens, together.
use Rattle.std.proofs.lemmas.Result.{err_from_is_err_and}
use Rattle.filter_sql.specs.ColumnNames.{column_trees}
use Rattle.filter_sql.specs.Printing.{tokens_of}
use Rattle.filter_sql.proofs.ParseSteps.{result_fits, result_is_sql, result_placed, result_refuses, result_reads_back}
use Rattle.filter_sql.proofs.PrintLaws.{LiteralLaws, text_tokens}
use Rattle.filter_sql.proofs.parsing.parse_within.Goals as goal

pub returns-in_err-lexed-clause-printed : goal.returns-in_err-lexed-clause-printed
returns-in_err-lexed-clause-printed c = λ names f readable deep is.
    let p = err_from_is_err_and c.from_residual.result c.from_residual.ensures.1 in
    rw (p.1, p.2) c.in_err-lexed.ensures.refused

pub filter_in-requires : goal.filter_in-requires
filter_in-requires c = rw c.deref.ensures.value c.in_ok-lexed.ensures.places

pub returns-clause-read : goal.returns-clause-read
returns-clause-read c =
    result_is_sql c.args.depth (column_trees c.args.columns.now) c.args.text.now c.deref.result.now c.in_ok-lexed.lexed.ending (rw c.deref.ensures.value c.in_ok-lexed.ensures.found) c.filter_in.result c.filter_in.ensures.whole c.filter_in.ensures.given

pub returns-clause-printed : goal.returns-clause-printed
returns-clause-printed c = λ names f readable deep is.
    let laws : LiteralLaws = record { integers = c.integers_lie_at_themselves.ensures; types = c.shapes_say_types.ensures.says; words = c.shapes_say_words.ensures; escaped = c.texts_come_back.ensures.escaped; plain = c.texts_come_back.ensures.plain } in
    result_reads_back laws c.args.depth (column_trees c.args.columns.now) names c.deref.result.now c.in_ok-lexed.lexed.ending is.words f is.are readable deep
    (rw c.deref.ensures.value (c.in_ok-lexed.ensures.canonical (tokens_of names is.words f) (text_tokens laws (column_trees c.args.columns.now) names is.words f c.args.depth is.are readable deep) is.text)) c.filter_in.result c.filter_in.ensures.given c.filter_in.ensures.refused

pub returns-clause-refused : goal.returns-clause-refused
returns-clause-refused c =
    result_refuses c.args.depth (column_trees c.args.columns.now) c.args.text.now c.deref.result.now c.in_ok-lexed.lexed.ending (rw c.deref.ensures.value c.in_ok-lexed.ensures.found) c.filter_in.result c.filter_in.ensures.refused

pub returns-clause-placed : goal.returns-clause-placed
returns-clause-placed c = result_placed _ _ c.filter_in.result c.in_ok-lexed.ensures.place c.filter_in.ensures.placed

pub returns-in_err-lexed-clause-fits : goal.returns-in_err-lexed-clause-fits
returns-in_err-lexed-clause-fits c = λ ordered. let p = err_from_is_err_and c.from_residual.result c.from_residual.ensures.1 in rw p.1 tt

pub returns-clause-fits : goal.returns-clause-fits
returns-clause-fits c = λ ordered. result_fits c.args.depth (column_trees c.args.columns.now) c.deref.result.now c.in_ok-lexed.lexed.ending ordered c.filter_in.result c.filter_in.ensures.given
