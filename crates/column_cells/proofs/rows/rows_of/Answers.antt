use Rattle.arrow_columns.specs.Checked.{AreRowsOf}
use Rattle.std.proofs.Common.{◌≡◌}
use Rattle.column_cells.specs.Contents.{HasTexts, contents_of_column, contents_of_rows}
use Rattle.column_cells.specs.Types.{type_of_column, type_of_rows}
use Rattle.column_cells.proofs.ContentLaws.{ok_all, same_contents, same_type, texts_of}
use Rattle.column_cells.proofs.rows.rows_of.Goals as goal

pub returns-clause-typed : goal.returns-clause-typed
returns-clause-typed c = ok_all c.check.result (AreRowsOf c.args.column) (λ rows. type_of_rows rows ≡ type_of_column c.args.column) (same_type c.args.column) c.check.ensures.rows

pub returns-clause-contents : goal.returns-clause-contents
returns-clause-contents c = ok_all c.check.result (AreRowsOf c.args.column) (λ rows. contents_of_rows rows ≡ contents_of_column c.args.column) (same_contents c.args.column) c.check.ensures.rows

pub returns-clause-texts : goal.returns-clause-texts
returns-clause-texts c = ok_all c.check.result (AreRowsOf c.args.column) HasTexts (texts_of c.args.column) c.check.ensures.rows
