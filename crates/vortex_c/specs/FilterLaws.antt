-- What was prepared from words is read back, as the filter that the words are.
use Rattle.std.specs.Prelude.{◌≡◌, ℕ, ◌≤◌, List}
use Rattle.arrow_columns.specs.declared.columns.Column.{Column}
use Rattle.column_filters.specs.Words.{IsMask, matching}
use Rattle.column_filters.specs.Tables.{AreColumnsOf, cells_of_columns}
use Rattle.column_filters.specs.Zones.{AreOutcomes}
use Rattle.filter_encoding.specs.declared.error.FilterEncodingError.{FilterEncodingError}
use Rattle.filter_encoding.specs.declared.error.FilterEncodingError.TheVariants.{OutOfMemory}
use Rattle.vortex_c.specs.FilterSql.{IsPreparedFrom, encoding_depth, types_of_kinds}
use Rattle.vortex_c.specs.Filters.{AreFilterOutcomes, IsFilterMask, IsUnread}
use Rattle.vortex_c.specs.declared.sql.NamedKind.{NamedKind}

-- Bytes that were prepared from words, over columns by name and kind.
-- They are read at the depth of the words and at any greater one; the columns of a mask are of those kinds, and its bits are of the filter that the words
-- are; and so are the outcomes of zones.
pub record AreOfWords (n : ℕ) (words : List ℕ) (named : List NamedKind) (bytes : List ℕ) (h : IsPreparedFrom n words named bytes) : Type 0 where
  pub read : (m : ℕ) → n ≤ m → (cause : FilterEncodingError) → IsUnread (encoding_depth m) bytes cause → cause ≡ OutOfMemory
  pub columns : (m : ℕ) (columns : List Column) (count : ℕ) (buffer : List ℕ) → IsFilterMask m bytes columns count buffer → AreColumnsOf h.filter columns (types_of_kinds named) count
  pub mask : (m : ℕ) (columns : List Column) (count : ℕ) (buffer : List ℕ) → IsFilterMask m bytes columns count buffer → IsMask (matching h.filter (cells_of_columns columns)) count buffer
  pub outcomes : (m : ℕ) (statistics offsets outcomes : List ℕ) → AreFilterOutcomes m bytes statistics offsets outcomes → AreOutcomes h.filter (types_of_kinds named) statistics offsets outcomes

abbrev pub FiltersAreOfWords : Type 0
FiltersAreOfWords = (n : ℕ) (words : List ℕ) (named : List NamedKind) (bytes : List ℕ) (h : IsPreparedFrom n words named bytes) → AreOfWords n words named bytes h
