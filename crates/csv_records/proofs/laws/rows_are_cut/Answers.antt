-- The law.
use Rattle.csv_records.proofs.RowCuts.{rows_are_cut}
use Rattle.csv_records.proofs.laws.rows_are_cut.Goals as goal

pub returns : goal.returns
returns c = rows_are_cut
