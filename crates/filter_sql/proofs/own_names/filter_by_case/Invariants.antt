-- The words so far are renamed, and no column has a name in them.
use Rattle.std.specs.Prelude.{string_bytes}
use Rattle.filter_sql.specs.ColumnNames.{column_trees}
use Rattle.filter_sql.specs.Parsing.{RefusesSqlWithin}
use Rattle.filter_sql.specs.declared.error.ParseError.TheVariants.{NoColumn}
use Rattle.filter_sql.specs.OwnNames.{AreRenamed}
use Rattle.filter_sql.proofs.own_names.filter_by_case.Given as goal

abbrev pub invariant-loop : goal.invariant-loop
invariant-loop l = record {
  renamed : AreRenamed l.depth (column_trees l.columns) l.words (string_bytes l.own);
  refused : RefusesSqlWithin l.depth (column_trees l.columns) (string_bytes l.own) (NoColumn l.place);
}
