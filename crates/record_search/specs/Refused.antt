-- Why a record has no row under a schema.
use Rattle.std.specs.Prelude.{ℕ, List}
use Rattle.record_rows.specs.Rows.{Refuses}
use Rattle.record_rows.specs.declared.errors.RowReadError.{RowReadError}
use Rattle.record_rows.specs.declared.errors.RowReadError.TheVariants as row_faults
use Rattle.zone_index.specs.declared.errors.Cause.{Cause}
use Rattle.zone_index.specs.declared.errors.Cause.TheVariants as causes
use Rattle.zone_index.specs.declared.errors.RecordError.{RecordError}
use Rattle.zone_index.specs.declared.errors.RecordError.TheVariants as record_faults
use Rattle.record_rows.specs.declared.schema.Schema.{Schema}

-- the error of a row with this cause
abbrev pub row_fault : Cause → RowReadError
row_fault (causes.Word column word) = row_faults.Word column word
row_fault causes.FieldCount = row_faults.FieldCount
row_fault causes.LoneReturn = row_faults.LoneReturn

-- why a record is refused under a schema: the first error from left to right
abbrev pub RefusesRecord : Schema → List ℕ → Cause → Type 0
RefusesRecord s line cause = Refuses s.delimiter.byte s.reading s.columns.items line (row_fault cause)

-- the error of a row, of a record that begins at this offset
abbrev pub fault_at_place : ℕ → RowReadError → RecordError
fault_at_place place row_faults.Memory = record_faults.Memory
fault_at_place place (row_faults.Word column word) = record_faults.Refused (record { place = place; cause = causes.Word column word })
fault_at_place place row_faults.FieldCount = record_faults.Refused (record { place = place; cause = causes.FieldCount })
fault_at_place place row_faults.LoneReturn = record_faults.Refused (record { place = place; cause = causes.LoneReturn })
