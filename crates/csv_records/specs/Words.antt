-- The words of this crate's clauses, from one place.
pub use Rattle.csv.specs.Machine.{in_field, start_field, start_record, step}
pub use Rattle.std.specs.List.{onto_first}
pub use Rattle.csv_records.specs.Lemmas.RecordLaws.{EndsRecord}
pub use Rattle.csv_records.specs.Fields.{AreBare, BeginsBare, HasNoFront, IsCut}
pub use Rattle.csv_records.specs.Records.{HasNoPlainFeed, records_of, state_at}
pub use Rattle.csv_records.specs.Rows.{config_of, field_rows, rows_of, state_after}
