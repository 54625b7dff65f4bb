-- What callers are told of the statistics of columns, in their stable encoding.
use Rattle.std.specs.Prelude.{◌≡◌, ◌⊎◌, ℕ, List, Option, Some, None}
use Rattle.arrow_columns.specs.declared.columns.Column.{Column}
use Rattle.arrow_columns.specs.declared.kinds.Kind.{Kind}
use Rattle.column_statistics.specs.Encodings.{IsEncodingError, IsMergeError, IsMergedEncoding}
use Rattle.column_statistics.specs.declared.errors.MergeError.{MergeError}
use Rattle.column_statistics.specs.declared.errors.MergeError.TheVariants as merge
use Rattle.column_statistics.specs.declared.errors.ColumnStatisticsError.{ColumnStatisticsError}
use Rattle.column_statistics.specs.declared.errors.ColumnStatisticsError.TheVariants as column
use Rattle.vortex_c.specs.ColumnErrors.{place_in_column, status_of_column}
use Rattle.vortex_c.specs.declared.fault.Fault.{Fault}
use Rattle.vortex_c.specs.declared.status.TheConstants.{BAD_BYTES, NOT_A_VALUE, NO_MEMORY, TOO_MANY_ROWS, UNKNOWN_KIND}

-- there is no kind, which is told of column 0
abbrev pub SaysNoKind : Option Kind → Fault → ℕ → Type 0
SaysNoKind found after status = (found ≡ None) × (status ≡ UNKNOWN_KIND) × (after ≡ record { column = 0; place = 0 })

-- ---- of a column

-- the status of a column that has no encoding
abbrev pub status_of_encoding : ColumnStatisticsError → ℕ
status_of_encoding column.OutOfMemory = NO_MEMORY
status_of_encoding (column.Unreadable fault) = status_of_column fault

-- where it is told to be, if it was there before: want of memory is nowhere
abbrev pub fault_of_encoding : Fault → ColumnStatisticsError → Fault
fault_of_encoding before column.OutOfMemory = before
fault_of_encoding before (column.Unreadable fault) = record { column = 0; place = place_in_column fault }

-- the call with this status gave no encoding for such a reason, and told where
abbrev pub SaysWhyNoEncoding : Column → Fault → Fault → ℕ → Type 0
SaysWhyNoEncoding c before after status = (reason : ColumnStatisticsError) × IsEncodingError c reason × (status ≡ status_of_encoding reason) × (after ≡ fault_of_encoding before reason)

-- ---- of two pieces

-- the bytes are the encoding of both pieces, of a column of the kind that was found
pub record IsMergedAt (found : Option Kind) (one other bytes : List ℕ) : Type 0 where
  pub kind : Kind
  pub is_kind : found ≡ Some kind
  pub merged : IsMergedEncoding kind one other bytes

-- the status of pieces that are not merged
abbrev pub status_of_merge : MergeError → ℕ
status_of_merge merge.OutOfMemory = NO_MEMORY
status_of_merge merge.TooManyRows = TOO_MANY_ROWS
status_of_merge (merge.BadBytes piece place) = BAD_BYTES
status_of_merge (merge.NotAValue piece) = NOT_A_VALUE

-- where that is told to be, if it was there before: the piece, and the offset in it
abbrev pub fault_of_merge : Fault → MergeError → Fault
fault_of_merge before merge.OutOfMemory = before
fault_of_merge before merge.TooManyRows = record { column = 0; place = 0 }
fault_of_merge before (merge.BadBytes piece place) = record { column = piece; place = place }
fault_of_merge before (merge.NotAValue piece) = record { column = piece; place = 0 }

-- the call with this status merged nothing for such a reason, and told where
abbrev pub SaysWhyNotMerged : Option Kind → List ℕ → List ℕ → Fault → Fault → ℕ → Type 0
SaysWhyNotMerged found one other before after status = SaysNoKind found after status
    ⊎ ((kind : Kind) × (reason : MergeError) × (found ≡ Some kind) × IsMergeError kind one other reason
    × (status ≡ status_of_merge reason) × (after ≡ fault_of_merge before reason))
