-- What is sought, or why the words are no filter.
use Rattle.std.proofs.Common.{List, ap, subst}
use Rattle.std.proofs.lemmas.Result.{err_from_is_err_and}
use Rattle.csv_columns.specs.declared.column_words.NamedColumn.{NamedColumn}
use Rattle.vortex_filter.specs.Formula.{formula}
use Rattle.filter_sql.specs.OwnNames.{IsFilterOf}
use Rattle.file_search.specs.Sought.{trees_of_named}
use Rattle.file_search.proofs.SoughtSteps.{unsought_of}
use Rattle.file_search.proofs.sought.Sought.from_text.Goals as goal

pub returns-in_err-filter-clause-refused : goal.returns-in_err-filter-clause-refused
returns-in_err-filter-clause-refused c =
    let p = err_from_is_err_and c.from_residual-in_err-filter.result c.from_residual-in_err-filter.ensures.1 in
    rw (p.1, p.2) (unsought_of c.args.depth c.args.setup.now c.args.words.now c.in_ok-setup.setup (trees_of_named c.deref.result.now) c.in_err-filter.field-0.0 c.in_ok-setup.ensures.is (ap trees_of_named c.deref.ensures.value) c.utf8.words c.in_err-filter.ensures.refused)

pub returns-clause-sought : goal.returns-clause-sought
returns-clause-sought c = record {
  setup = c.in_ok-setup.setup;
  is = c.in_ok-setup.ensures.is;
  schema_is = c.in_ok-setup.ensures.schema;
  filter = subst (λ (columns : List NamedColumn). IsFilterOf c.args.depth (trees_of_named columns) c.args.words.now (formula c.in_ok-filter.filter)) c.deref.ensures.value c.in_ok-filter.ensures.read;
}
