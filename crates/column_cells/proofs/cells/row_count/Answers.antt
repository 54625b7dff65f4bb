use Rattle.arrow_columns.specs.declared.tested_rows.Rows.TheVariants.{Booleans, Bytes, Integers, Strings, Values}
use Rattle.column_cells.proofs.ContentLaws.{length_shown}
use Rattle.column_cells.proofs.cells.row_count.Goals as goal

pub returns-in-Integers : goal.returns-in-Integers
returns-in-Integers c = length_shown c.args.rows.now (Integers c.in-Integers.rows) c.in-Integers.is

pub returns-in-Booleans : goal.returns-in-Booleans
returns-in-Booleans c = length_shown c.args.rows.now (Booleans c.in-Booleans.rows) c.in-Booleans.is

pub returns-in-Strings : goal.returns-in-Strings
returns-in-Strings c = length_shown c.args.rows.now (Strings c.in-Strings.rows) c.in-Strings.is

pub returns-in-Bytes : goal.returns-in-Bytes
returns-in-Bytes c = length_shown c.args.rows.now (Bytes c.in-Bytes.rows) c.in-Bytes.is

pub returns-in-Values : goal.returns-in-Values
returns-in-Values c = length_shown c.args.rows.now (Values c.in-Values.rows) c.in-Values.is
