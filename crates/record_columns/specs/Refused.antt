-- Why records give no columns.
use Rattle.std.specs.Prelude.{◌≡◌, ◌≢◌, ◌<◌, ◌≤◌, ℕ, List, length, None, slice_index}
use Rattle.column_keys.specs.declared.buffers.ColumnBuffers.{ColumnBuffers}
use Rattle.record_rows.specs.declared.schema.Schema.{Schema}
use Rattle.record_search.specs.Refused.{RefusesRecord}
use Rattle.record_search.specs.Searched.{is_refused, records_under}
use Rattle.vortex_cells.specs.Cells.{Cell}
use Rattle.vortex_filter.specs.Formula.{Formula}
use Rattle.zone_index.specs.Errors.{IfRecordRefused, TellsOffset, TellsOneOf, before_refused}
use Rattle.zone_index.specs.declared.errors.RecordError.{RecordError}
use Rattle.record_columns.specs.Columns.{AreColumns, AreCountsOf, IsOneShort}
use Rattle.record_columns.specs.Rows.{matching_in}
use Rattle.record_columns.specs.declared.errors.ColumnsError.{ColumnsError}
use Rattle.record_columns.specs.declared.errors.ColumnsError.TheVariants.{BufferTooSmall, Record, UnknownColumn, WrongLength}

-- the first that is none
pub record IsFirstUnknown (s : Schema) (wanted : List ℕ) (which : ℕ) : Type 0 where
  pub within : which < length wanted
  pub before : AreColumns s wanted which
  pub none : length s.columns.items ≤ slice_index wanted which

-- each that is wanted is a column of the schema, and has its buffers
pub record AreWanted (s : Schema) (wanted : List ℕ) (columns : ℕ) : Type 0 where
  pub count : columns ≡ length wanted
  pub known : AreColumns s wanted (length wanted)

-- no record of the text is refused
abbrev pub ArePassed : Schema → List ℕ → Type 0
ArePassed s text = before_refused (is_refused s) (records_under s text) ≡ None

-- memory ran out, or this is told of the first record of the text that is refused; the text stands at this place
pub record IsRecordFault (s : Schema) (place : ℕ) (text : List ℕ) (fault : RecordError) : Type 0 where
  pub refused : IfRecordRefused (TellsOneOf (RefusesRecord s) place (records_under s text)) fault
  pub first : IfRecordRefused (TellsOffset place (before_refused (is_refused s) (records_under s text))) fault

-- no record is refused, so many rows match, and by what the buffers say those of a column are too short
pub record AreTooSmall (s : Schema) (f : Formula) (text wanted : List ℕ) (columns : List ColumnBuffers) (rows : ℕ) : Type 0 where
  pub passed : ArePassed s text
  pub count : rows ≡ length (matching_in s f text)
  pub short : IsOneShort s (matching_in s f text) wanted (length wanted) columns

-- why columns are not wanted so
abbrev pub IsWantedFault : Schema → List ℕ → ℕ → ColumnsError → Type 0
IsWantedFault s wanted columns WrongLength = columns ≢ length wanted
IsWantedFault s wanted columns (UnknownColumn which) = (columns ≡ length wanted) × IsFirstUnknown s wanted which
IsWantedFault s wanted columns (Record fault) = ⊥
IsWantedFault s wanted columns (BufferTooSmall rows) = ⊥

-- why the columns of a text are not written to these buffers: the first reason in this order
abbrev pub IsRefusal : Schema → Formula → ℕ → List ℕ → List ℕ → List ColumnBuffers → ColumnsError → Type 0
IsRefusal s f place text wanted columns WrongLength = IsWantedFault s wanted (length columns) WrongLength
IsRefusal s f place text wanted columns (UnknownColumn which) = IsWantedFault s wanted (length columns) (UnknownColumn which)
IsRefusal s f place text wanted columns (Record fault) = AreWanted s wanted (length columns) × IsRecordFault s place text fault
IsRefusal s f place text wanted columns (BufferTooSmall rows) = AreWanted s wanted (length columns) × AreTooSmall s f text wanted columns rows

-- where a buffer is too short, each column says how many bytes its values have, and nothing else changed
abbrev pub AreCountsIfSmall : Schema → List (List Cell) → List ℕ → List ColumnBuffers → List ColumnBuffers → ColumnsError → Type 0
AreCountsIfSmall s rows wanted old new (BufferTooSmall count) = AreCountsOf s rows wanted old new
AreCountsIfSmall s rows wanted old new _ = Unit {0}

-- else nothing changed
abbrev pub StayIfOther : List ColumnBuffers → List ColumnBuffers → ColumnsError → Type 0
StayIfOther old new (BufferTooSmall count) = Unit {0}
StayIfOther old new _ = new ≡ old
