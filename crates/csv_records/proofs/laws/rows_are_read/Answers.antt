-- The law.
use Rattle.csv_records.proofs.ReadLaws.{rows_are_read}
use Rattle.csv_records.proofs.laws.rows_are_read.Goals as goal

pub returns : goal.returns
returns c = rows_are_read
