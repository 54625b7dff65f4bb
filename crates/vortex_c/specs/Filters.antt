-- What callers are told of prepared filters, asked of rows and of zones.
use Rattle.std.specs.Prelude.{◌≡◌, ℕ, List, length}
use Rattle.arrow_columns.specs.declared.columns.Column.{Column}
use Rattle.column_filters.specs.Words.{IsMask, matching}
use Rattle.column_filters.specs.Tables.{AreColumnsOf, IsMaskError, cells_of_columns}
use Rattle.column_filters.specs.Zones.{AreOutcomes, RefusesZones}
use Rattle.column_filters.specs.declared.errors.MaskError.{MaskError}
use Rattle.column_filters.specs.declared.errors.MaskError.TheVariants as mask
use Rattle.column_filters.specs.declared.errors.ZoneError.{ZoneError}
use Rattle.column_filters.specs.declared.errors.ZoneError.TheVariants as zone
use Rattle.filter_encoding.specs.Answers.{HasNoValue, HasVersion, IsFirstWrong, IsEncoding}
use Rattle.filter_encoding.specs.Encoding.{HasEncoding, IsVersion, Prepared, encoding_in}
use Rattle.filter_encoding.specs.declared.error.FilterEncodingError.{FilterEncodingError}
use Rattle.filter_encoding.specs.declared.error.FilterEncodingError.TheVariants.{BadBytes, NoEncoding, NotAValue, OutOfMemory}
use Rattle.vortex_c.specs.ColumnErrors.{place_in_column, status_of_column}
use Rattle.vortex_c.specs.declared.fault.Fault.{Fault}
use Rattle.vortex_c.specs.declared.filters.RowsError.{RowsError}
use Rattle.vortex_c.specs.declared.filters.RowsError.TheVariants as rows
use Rattle.vortex_c.specs.declared.filters.ZonesError.{ZonesError}
use Rattle.vortex_c.specs.declared.filters.ZonesError.TheVariants as zones
use Rattle.vortex_c.specs.declared.status.TheConstants.{BAD_BYTES, BAD_OFFSETS, NO_MEMORY, BUFFER_TOO_SMALL, UNKNOWN_KIND, WRONG_LENGTH}

-- ---- the encoding of a filter

-- the bytes are the encoding of this prepared filter, in which at most n connectives nest
pub record IsEncodingOf (n : ℕ) (bytes : List ℕ) (p : Prepared) : Type 0 where
  pub version : ℕ
  pub is_version : IsVersion version
  pub has_encoding : HasEncoding n p
  pub is : bytes ≡ encoding_in version p

-- why bytes are not read as such a filter: memory is asked for once their first byte is a version
abbrev pub IsUnread : ℕ → List ℕ → FilterEncodingError → Type 0
IsUnread n bytes OutOfMemory = HasVersion bytes
IsUnread n bytes NoEncoding = ⊥
IsUnread n bytes (BadBytes place) = IsFirstWrong (IsEncoding n) bytes place
IsUnread n bytes (NotAValue place) = HasNoValue n bytes place

abbrev pub status_of_encoding_fault : FilterEncodingError → ℕ
status_of_encoding_fault OutOfMemory = NO_MEMORY
status_of_encoding_fault NoEncoding = BAD_BYTES
status_of_encoding_fault (BadBytes place) = BAD_BYTES
status_of_encoding_fault (NotAValue place) = BAD_BYTES

-- told of this column, which is past the last one
abbrev pub fault_of_encoding_fault : ℕ → FilterEncodingError → Fault → Fault
fault_of_encoding_fault column OutOfMemory before = before
fault_of_encoding_fault column NoEncoding before = record { column = column; place = 0 }
fault_of_encoding_fault column (BadBytes place) before = record { column = column; place = place }
fault_of_encoding_fault column (NotAValue place) before = record { column = column; place = place }

-- ---- rows

-- the bytes are a prepared filter in which at most n connectives nest, the columns are those that it speaks of, and the buffer begins with a bit for each row, which
-- says whether the filter matches it
pub record IsFilterMask (n : ℕ) (bytes : List ℕ) (columns : List Column) (count : ℕ) (buffer : List ℕ) : Type 0 where
  pub filter : Prepared
  pub is_encoding : IsEncodingOf n bytes filter
  pub are_columns : AreColumnsOf filter.filter columns filter.types count
  pub mask : IsMask (matching filter.filter (cells_of_columns columns)) count buffer

-- why there is no mask of so many rows in a buffer of so many bytes
abbrev pub IsRowsError : ℕ → List ℕ → List Column → (count size : ℕ) → RowsError → Type 0
IsRowsError n bytes columns count size (rows.Unread cause) = IsUnread n bytes cause
IsRowsError n bytes columns count size (rows.NoMask cause) = (p : Prepared) × IsEncodingOf n bytes p × IsMaskError p.filter columns p.types count size cause

abbrev pub status_of_mask : MaskError → ℕ
status_of_mask mask.OutOfMemory = NO_MEMORY
status_of_mask mask.BufferTooSmall = BUFFER_TOO_SMALL
status_of_mask mask.WrongCount = WRONG_LENGTH
status_of_mask (mask.Unreadable column fault) = status_of_column fault
status_of_mask (mask.TypesDiffer column) = UNKNOWN_KIND
status_of_mask (mask.WrongLength column) = WRONG_LENGTH

-- its column, among so many, and what is wrong there
abbrev pub fault_of_mask : ℕ → MaskError → Fault → Fault
fault_of_mask columns mask.OutOfMemory before = before
fault_of_mask columns mask.BufferTooSmall before = before
fault_of_mask columns mask.WrongCount before = record { column = columns; place = 0 }
fault_of_mask columns (mask.Unreadable column fault) before = record { column = column; place = place_in_column fault }
fault_of_mask columns (mask.TypesDiffer column) before = record { column = column; place = 1 }
fault_of_mask columns (mask.WrongLength column) before = record { column = column; place = 0 }

abbrev pub status_of_rows : RowsError → ℕ
status_of_rows (rows.Unread cause) = status_of_encoding_fault cause
status_of_rows (rows.NoMask cause) = status_of_mask cause

abbrev pub fault_of_rows : ℕ → RowsError → Fault → Fault
fault_of_rows columns (rows.Unread cause) before = fault_of_encoding_fault columns cause before
fault_of_rows columns (rows.NoMask cause) before = fault_of_mask columns cause before

-- the call with this status wrote no mask for such a reason, and told where
abbrev pub SaysWhyNoMask : ℕ → List ℕ → List Column → (count size : ℕ) → Fault → Fault → ℕ → Type 0
SaysWhyNoMask n bytes columns count size before after status =
    (reason : RowsError) × IsRowsError n bytes columns count size reason × (status ≡ status_of_rows reason) × (after ≡ fault_of_rows (length columns) reason before)

-- ---- zones

-- the bytes are a prepared filter in which at most n connectives nest, and the outcomes are what it can be by the statistics of its columns
pub record AreFilterOutcomes (n : ℕ) (bytes statistics offsets outcomes : List ℕ) : Type 0 where
  pub filter : Prepared
  pub is_encoding : IsEncodingOf n bytes filter
  pub are_outcomes : AreOutcomes filter.filter filter.types statistics offsets outcomes

-- why there are no outcomes of so many zones
abbrev pub IsZonesError : ℕ → List ℕ → List ℕ → List ℕ → ℕ → ZonesError → Type 0
IsZonesError n bytes statistics offsets count (zones.Unread cause) = IsUnread n bytes cause
IsZonesError n bytes statistics offsets count (zones.NoOutcomes cause) = (p : Prepared) × IsEncodingOf n bytes p × RefusesZones p.filter p.types statistics offsets count cause

abbrev pub status_of_piece : ZoneError → ℕ
status_of_piece zone.OutOfMemory = NO_MEMORY
status_of_piece zone.WrongLength = WRONG_LENGTH
status_of_piece (zone.BadOffsets piece) = BAD_OFFSETS
status_of_piece (zone.BadBytes piece place) = BAD_BYTES
status_of_piece (zone.HasVariant piece) = BAD_BYTES

-- its piece, among so many offsets, and the byte of it
abbrev pub fault_of_pieces : ℕ → ZoneError → Fault → Fault
fault_of_pieces offsets zone.OutOfMemory before = before
fault_of_pieces offsets zone.WrongLength before = record { column = offsets; place = 0 }
fault_of_pieces offsets (zone.BadOffsets piece) before = record { column = piece; place = 0 }
fault_of_pieces offsets (zone.BadBytes piece place) before = record { column = piece; place = place }
fault_of_pieces offsets (zone.HasVariant piece) before = record { column = piece; place = 0 }

abbrev pub status_of_zones : ZonesError → ℕ
status_of_zones (zones.Unread cause) = status_of_encoding_fault cause
status_of_zones (zones.NoOutcomes cause) = status_of_piece cause

abbrev pub fault_of_zones : ℕ → ZonesError → Fault → Fault
fault_of_zones offsets (zones.Unread cause) before = fault_of_encoding_fault offsets cause before
fault_of_zones offsets (zones.NoOutcomes cause) before = fault_of_pieces offsets cause before

-- the call with this status found no outcomes for such a reason, and told where
abbrev pub SaysWhyNoOutcomes : ℕ → List ℕ → List ℕ → List ℕ → ℕ → Fault → Fault → ℕ → Type 0
SaysWhyNoOutcomes n bytes statistics offsets count before after status =
    (reason : ZonesError) × IsZonesError n bytes statistics offsets count reason × (status ≡ status_of_zones reason) × (after ≡ fault_of_zones (length offsets) reason before)
