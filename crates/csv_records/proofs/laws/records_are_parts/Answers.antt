-- The law.
use Rattle.csv_records.specs.Lemmas.RecordLaws.{concat-records_of}
use Rattle.csv_records.proofs.laws.records_are_parts.Goals as goal

pub returns : goal.returns
returns c = concat-records_of
