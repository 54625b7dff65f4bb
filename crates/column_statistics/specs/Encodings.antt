-- Statistics of columns as bytes, and why there are none.
use Rattle.std.specs.Prelude.{◌≡◌, ◌⊎◌, ℕ, ◌+◌, ◌<◌, ◌^◌, ◌≤◌, List, Option, IfSome}
use Rattle.arrow_columns.specs.Errors.{IsErrorOf}
use Rattle.arrow_columns.specs.declared.columns.Column.{Column}
use Rattle.column_cells.specs.Types.{type_of_column}
use Rattle.vortex_dtype.specs.TypeTree.{TypeTree, extension_type}
use Rattle.arrow_columns.specs.declared.kinds.Kind.{Kind}
use Rattle.column_cells.specs.Types.{type_of_kind}
use Rattle.column_items.specs.Numbers.{HasContentOf}
use Rattle.named_statistics.specs.Named.{IsWrongAt, SaysNamedBound, named_encoding}
use Rattle.statistics_bytes.specs.Encoding.{AreOf}
use Rattle.vortex_statistics.specs.Merging.{AreRightTogether, merged}
use Rattle.vortex_statistics.specs.Statistics.{AreRight, Known, KnownBound, known}
use Rattle.vortex_statistics.specs.declared.column_statistics.ColumnStatistics.{ColumnStatistics}
use Rattle.vortex_statistics.specs.declared.error.StatisticsError.{StatisticsError}
use Rattle.vortex_statistics.specs.declared.error.StatisticsError.TheVariants as any
use Rattle.column_statistics.specs.Cells.{AreCutStatistics, cells_of_column}
use Rattle.column_statistics.specs.Errors.{IsReadable}
use Rattle.column_statistics.specs.declared.errors.MergeError.{MergeError}
use Rattle.column_statistics.specs.declared.errors.MergeError.TheVariants as merge
use Rattle.column_statistics.specs.declared.errors.ReadError.{ReadError}
use Rattle.column_statistics.specs.declared.errors.ReadError.TheVariants as read
use Rattle.column_statistics.specs.declared.errors.ColumnStatisticsError.{ColumnStatisticsError}
use Rattle.column_statistics.specs.declared.errors.ColumnStatisticsError.TheVariants.{OutOfMemory, Unreadable}

-- ---- of a column

-- the encoding of all that can be said of a column, with bounds that are cut to n bytes: it is right for the column's cells
pub record IsColumnEncoding (column : Column) (n : ℕ) (bytes : List ℕ) : Type 0 where
  pub statistics : ColumnStatistics
  pub cut : AreCutStatistics n (cells_of_column column) statistics
  pub right : AreRight (known statistics) (cells_of_column column)
  pub of_type : AreOf (type_of_column column) (known statistics)
  pub is : bytes ≡ named_encoding (type_of_column column) (known statistics)

-- why a column has no encoding: there is no memory, or it cannot be read
abbrev pub IsEncodingError : Column → ColumnStatisticsError → Type 0
IsEncodingError column OutOfMemory = IsReadable column
IsEncodingError column (Unreadable fault) = IsErrorOf column fault

-- ---- of bytes

-- the bytes are the encoding of these statistics, which are of the type
pub record IsEncodingAs (t : TypeTree) (bytes : List ℕ) (s : Known) : Type 0 where
  pub of_type : AreOf t s
  pub is : bytes ≡ named_encoding t s

-- the bound, if it is there, is null or a value of the kind
abbrev pub HasValueIn : Kind → Option KnownBound → Type 0
HasValueIn kind b = IfSome b (λ b. HasContentOf kind b.value.content)

-- so is each bound
pub record HaveValues (kind : Kind) (s : Known) : Type 0 where
  pub lower : HasValueIn kind s.lower
  pub upper : HasValueIn kind s.upper

-- the bytes are the encoding of statistics of the kind, and a bound of these is no value of it
pub record HasNoValue (kind : Kind) (bytes : List ℕ) : Type 0 where
  pub statistics : Known
  pub is_encoding : IsEncodingAs (type_of_kind kind) bytes statistics
  pub none : ¬ (HaveValues kind statistics)

-- the type takes memory of its own
abbrev pub IsExtensionType : TypeTree → Type 0
IsExtensionType (extension_type id metadata storage) = Unit {0}
IsExtensionType _ = ⊥

-- why bytes are not read: there is no memory for the type or for a bound, they are no encoding, or a bound is no value
abbrev pub IsReadError : Kind → List ℕ → ReadError → Type 0
IsReadError kind bytes read.OutOfMemory = IsExtensionType (type_of_kind kind) ⊎ SaysNamedBound (type_of_kind kind) bytes
IsReadError kind bytes (read.BadBytes place) = IsWrongAt (type_of_kind kind) bytes place
IsReadError kind bytes read.NotAValue = HasNoValue kind bytes

-- what a reader of statistics of any type says, of a type in which no variant stands
abbrev pub read_fault : StatisticsError → ReadError
read_fault any.OutOfMemory = read.OutOfMemory
read_fault any.TooManyRows = read.OutOfMemory
read_fault any.HasVariant = read.OutOfMemory
read_fault (any.BadBytes place) = read.BadBytes place

-- ---- of two pieces

-- the bytes are the encoding of these statistics of the kind, whose bounds are null or values of it
pub record IsPieceOf (kind : Kind) (bytes : List ℕ) (s : Known) : Type 0 where
  pub is_encoding : IsEncodingAs (type_of_kind kind) bytes s
  pub values : HaveValues kind s

-- the bytes are such an encoding
abbrev pub IsPiece : Kind → List ℕ → Type 0
IsPiece kind bytes = (s : Known) × IsPieceOf kind bytes s

-- the bytes are the encoding of the statistics of both pieces, which are right for both if those of each are
pub record IsMergedEncoding (kind : Kind) (one other bytes : List ℕ) : Type 0 where
  pub first : Known
  pub second : Known
  pub is_first : IsPieceOf kind one first
  pub is_second : IsPieceOf kind other second
  pub together : AreRightTogether first second (merged first second)
  pub both : IsPieceOf kind bytes (merged first second)

-- both pieces are encodings, and 64 bits do not count their rows together
pub record HaveTooManyRows (kind : Kind) (one other : List ℕ) : Type 0 where
  pub first : Known
  pub second : Known
  pub is_first : IsPieceOf kind one first
  pub is_second : IsPieceOf kind other second
  pub many : 2 ^ 64 ≤ first.row_count + second.row_count

-- both pieces are encodings, and 64 bits count their rows together
pub record CanBeMerged (kind : Kind) (one other : List ℕ) : Type 0 where
  pub first : Known
  pub second : Known
  pub is_first : IsPieceOf kind one first
  pub is_second : IsPieceOf kind other second
  pub few : first.row_count + second.row_count < 2 ^ 64

-- what takes memory: a logical type; a bound that the first piece says; if that is well, one that the second says; and if both can
-- be merged, the encoding of both
abbrev pub TakesMemory : Kind → List ℕ → List ℕ → Type 0
TakesMemory kind one other =
    IsExtensionType (type_of_kind kind) ⊎ (SaysNamedBound (type_of_kind kind) one ⊎ ((IsPiece kind one × SaysNamedBound (type_of_kind kind) other) ⊎ CanBeMerged kind one other))

-- why two pieces are not merged: of those that are no encoding, or have a bound that is no value, the first, by its number and
-- offset; or there is no memory. Nothing is said of the second piece unless the first one is well
abbrev pub IsMergeError : Kind → List ℕ → List ℕ → MergeError → Type 0
IsMergeError kind one other merge.OutOfMemory = TakesMemory kind one other
IsMergeError kind one other merge.TooManyRows = HaveTooManyRows kind one other
IsMergeError kind one other (merge.BadBytes piece place) =
    ((piece ≡ 0) × IsWrongAt (type_of_kind kind) one place) ⊎ ((piece ≡ 1) × IsPiece kind one × IsWrongAt (type_of_kind kind) other place)
IsMergeError kind one other (merge.NotAValue piece) = ((piece ≡ 0) × HasNoValue kind one) ⊎ ((piece ≡ 1) × IsPiece kind one × HasNoValue kind other)

-- the same reason, of one of the pieces that is not read
abbrev pub fault_of_piece : ℕ → ReadError → MergeError
fault_of_piece piece read.OutOfMemory = merge.OutOfMemory
fault_of_piece piece (read.BadBytes place) = merge.BadBytes piece place
fault_of_piece piece read.NotAValue = merge.NotAValue piece
