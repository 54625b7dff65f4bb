-- What is read of a text is the filter that it is, and nothing else is refused but for want of memory.
use Rattle.std.proofs.Common.{ℕ, List, Result, Ok, Err, IfErr, IfOk}
use Rattle.filter_sql.specs.ColumnNames.{ColumnTree, column_trees}
use Rattle.filter_sql.specs.Parsing.{IsSql, ReadsAs, RefusesSql, nesting}
use Rattle.filter_sql.specs.TextLaws.{RefusedTextsSayNone, TextsSayOneFilter}
use Rattle.filter_sql.specs.declared.error.ParseError.{ParseError}
use Rattle.vortex_filter.specs.Formula.{Formula, formula}
use Rattle.vortex_filter.specs.declared.filter.Filter.{Filter}
use Rattle.law_callers.proofs.TextSteps.{only_memory}
use Rattle.law_callers.proofs.filter_texts.read_text.Goals as goal

reads_as : TextsSayOneFilter → RefusedTextsSayNone → (columns : List ColumnTree) (sql : List ℕ) (r : Result Filter ParseError) (f : Formula) → IfOk r (λ filter. IsSql columns sql (formula filter)) → IfErr r (RefusesSql columns sql) → IsSql columns sql f → ReadsAs f r
reads_as one none columns sql (Ok filter) f read refused is = one nesting nesting columns sql (formula filter) f read is
reads_as one none columns sql (Err e) f read refused is = only_memory none columns sql e f refused is

pub returns : goal.returns
returns c = λ f is.
    let laws = c.texts_say_one_filter.ensures in
    reads_as laws.one laws.none (column_trees c.args.columns.now) c.args.text.now c.parse.result f c.parse.ensures.read c.parse.ensures.refused is
