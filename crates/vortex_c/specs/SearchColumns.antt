-- What callers are told of the columns of rows that match.
use Rattle.std.specs.Prelude.{◌≡◌, ◌⊎◌, ℕ, List, Option, Some, length, map}
use Rattle.arrow_columns.specs.declared.kinds.Kind.{Kind}
use Rattle.column_keys.specs.declared.buffers.ColumnBuffers.{ColumnBuffers}
use Rattle.csv_columns.specs.declared.column_words.NamedColumn.{NamedColumn}
use Rattle.csv_columns.specs.declared.setup.Setup.{Setup}
use Rattle.file_search.specs.Sought.{IsSetupOf, IsSought}
use Rattle.file_search.specs.declared.sought.SoughtError.{SoughtError}
use Rattle.record_columns.specs.Columns.{AreColumnsOf, AreCountsOf}
use Rattle.record_columns.specs.Kinds.{kind_of_column}
use Rattle.record_columns.specs.Refused.{ArePassed, AreWanted, IsRefusal}
use Rattle.record_columns.specs.Rows.{matching_in}
use Rattle.record_columns.specs.declared.errors.ColumnsError.{ColumnsError}
use Rattle.record_columns.specs.declared.errors.ColumnsError.TheVariants.{BufferTooSmall, Record, UnknownColumn, WrongLength}
use Rattle.record_rows.specs.declared.schema.Schema.{Schema}
use Rattle.vortex_filter.specs.Formula.{Formula}
use Rattle.zone_index.specs.declared.errors.RecordError.TheVariants as faults
use Rattle.zone_index.specs.declared.errors.SearchError.TheVariants as searches
use Rattle.vortex_c.specs.SearchFaults.{fault_of_search, fault_of_sought, status_of_sought, told_at}
use Rattle.vortex_c.specs.Searches.{SaysWhyUnsought}
use Rattle.vortex_c.specs.declared.search_faults.SearchFault.{SearchFault}
use Rattle.vortex_c.specs.declared.status.TheConstants.{BUFFER_TOO_SMALL, NO_MEMORY, REFUSED, UNKNOWN_KIND, WRONG_LENGTH}
pub use Rattle.column_items.specs.Codes.{kind_of_code}
pub use Rattle.column_items.specs.declared.codes.KindCode.{KindCode}
pub use Rattle.file_search.specs.Sought.{IsUnread}
pub use Rattle.vortex_filter.specs.Formula.{formula}

-- so many rows of a text match, no record of it is refused, and the columns of these that are wanted are written
pub record AreFoundIn (s : Schema) (f : Formula) (text wanted : List ℕ) (old new : List ColumnBuffers) (rows : ℕ) : Type 0 where
  pub passed : ArePassed s text
  pub asked : AreWanted s wanted (length old)
  pub count : rows ≡ length (matching_in s f text)
  pub columns : AreColumnsOf s (matching_in s f text) wanted old new

-- so many match, and of each column it is said how many bytes its values have
pub record AreCountsIn (s : Schema) (f : Formula) (text wanted : List ℕ) (old new : List ColumnBuffers) (rows : ℕ) : Type 0 where
  pub count : rows ≡ length (matching_in s f text)
  pub columns : AreCountsOf s (matching_in s f text) wanted old new

-- the same of the filter that words are, over the columns of a setup
pub record AreColumnsBy (depth : ℕ) (setup words text wanted : List ℕ) (old new : List ColumnBuffers) (rows : ℕ) : Type 0 where
  pub schema : Schema
  pub f : Formula
  pub sought : IsSought depth setup words schema f
  pub found : AreFoundIn schema f text wanted old new rows

pub record AreCountsBy (depth : ℕ) (setup words text wanted : List ℕ) (old new : List ColumnBuffers) (rows : ℕ) : Type 0 where
  pub schema : Schema
  pub f : Formula
  pub sought : IsSought depth setup words schema f
  pub counts : AreCountsIn schema f text wanted old new rows

-- the status of columns that are not written
abbrev pub status_of_columns : ColumnsError → ℕ
status_of_columns WrongLength = WRONG_LENGTH
status_of_columns (UnknownColumn which) = UNKNOWN_KIND
status_of_columns (Record (faults.Refused refusal)) = REFUSED
status_of_columns (Record faults.Memory) = NO_MEMORY
status_of_columns (BufferTooSmall rows) = BUFFER_TOO_SMALL

-- what is told then, where so many are wanted, if this was there before
abbrev pub fault_of_columns : ℕ → ColumnsError → SearchFault → SearchFault
fault_of_columns wanted WrongLength before = told_at wanted 0 0
fault_of_columns wanted (UnknownColumn which) before = told_at 0 which 0
fault_of_columns wanted (Record (faults.Refused refusal)) before = fault_of_search (searches.Refused refusal) before
fault_of_columns wanted (Record faults.Memory) before = before
fault_of_columns wanted (BufferTooSmall rows) before = before

-- how many rows are told then, if this was there before
abbrev pub rows_told : ColumnsError → ℕ → ℕ
rows_told (BufferTooSmall rows) before = rows
rows_told _ before = before

-- the call with this status refused for such a reason, and told where it is
abbrev pub IsRefusedBy : Schema → Formula → ℕ → List ℕ → List ℕ → List ColumnBuffers → SearchFault → SearchFault → ℕ → Type 0
IsRefusedBy s f place text wanted columns before after status =
    (cause : ColumnsError) × IsRefusal s f place text wanted columns cause × (status ≡ status_of_columns cause) × (after ≡ fault_of_columns (length wanted) cause before)

-- nothing is sought, or the columns are not written
abbrev pub SaysWhyNoRows : ℕ → List ℕ → List ℕ → ℕ → List ℕ → List ℕ → List ColumnBuffers → SearchFault → SearchFault → ℕ → Type 0
SaysWhyNoRows depth setup words place text wanted columns before after status =
    SaysWhyUnsought depth setup words before after status
    ⊎ ((schema : Schema) × (f : Formula) × IsSought depth setup words schema f × IsRefusedBy schema f place text wanted columns before after status)

-- ---- kinds

-- the kind that a column with a name is written as
abbrev pub kind_of_named : NamedColumn → Option Kind
kind_of_named named = Some (kind_of_column named.column)

-- the bytes are the text of a setup, and these are the codes of what its columns are written as
pub record AreKindsOf (text : List ℕ) (codes : List KindCode) : Type 0 where
  pub setup : Setup
  pub is : IsSetupOf text setup
  pub kinds : map kind_of_code codes ≡ map kind_of_named setup.columns.items

abbrev pub SaysWhyNoKinds : List ℕ → SearchFault → SearchFault → ℕ → Type 0
SaysWhyNoKinds text before after status = (cause : SoughtError) × IsUnread text cause × (status ≡ status_of_sought cause) × (after ≡ fault_of_sought cause before)
