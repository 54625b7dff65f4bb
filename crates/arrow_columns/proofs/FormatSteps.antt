-- The numbers of a column of a logical type, and the values that they are of.
use Rattle.std.proofs.Common.{◌≡◌, ◌⊎◌, ℕ, ℤ, ◌+◌, ◌<◌, ◌^◌, inl, inr, List, Option, Some, None, Bool, true, false, arith, refl, slice_get, subst, sym, unsigned_abs, if◌then◌else◌}
use Rattle.std.proofs.lemmas.List.FromFn.{length-map-range_with_len}
use Rattle.std.proofs.lemmas.Option.{slice_get_within}
use Rattle.std.specs.Float.{binary32, binary64}
use Rattle.std.specs.Int.{from_le_bytes, w32, w64}
use Rattle.std.specs.Option.{IfSome}
use Rattle.std.specs.Prelude.{◌↔◌, MatchOption}
use Rattle.float_storage.proofs.Order.{bits_are_storages}
use Rattle.jiff_core.specs.Calendar.{IsBetween}
use Rattle.logical_types.specs.Words.{IsStorageOf}
use Rattle.logical_types.specs.declared.logical.LogicalType.{LogicalType}
use Rattle.logical_types.specs.declared.logical.LogicalType.TheVariants as logical
use Rattle.arrow_columns.specs.Bitmaps.{is_valid}
use Rattle.arrow_columns.specs.Cells.{cell_at}
use Rattle.arrow_columns.specs.Columns.{AreValuesBefore, IsItemColumn, IsValueRow, item_cells}
use Rattle.arrow_columns.specs.Errors.{IsItemError, IsLogicalError}
use Rattle.arrow_columns.specs.declared.errors.ColumnError.{ColumnError}
use Rattle.arrow_columns.specs.declared.errors.ColumnError.TheVariants.{BadOffsets, NotAValue, NotUtf8, TooManyRows, TooShort, UnknownKind}
use Rattle.arrow_columns.specs.declared.tested_rows.ItemRows.{ItemRows}
use Rattle.arrow_columns.specs.Formats.{IsLogicalTypeOf, IsSound, IsValueOf, items_of}
use Rattle.arrow_columns.specs.Integers.{item_at, number_of, width_of_item}
use Rattle.arrow_columns.specs.Ranges.{AreWithinBefore, IsFirstOutside}
use Rattle.arrow_columns.specs.declared.columns.Column.{Column}
use Rattle.arrow_columns.specs.declared.formats.Format.{Format}
use Rattle.arrow_columns.specs.declared.formats.Format.TheVariants.{Float32, Float64, Date32, Time, Timestamp, Decimal}
use Rattle.arrow_columns.specs.declared.kinds.ItemKind.{ItemKind}
use Rattle.arrow_columns.specs.declared.kinds.ItemKind.TheVariants.{F32, F64}
use Rattle.arrow_columns.proofs.CellLists.{all_from}
use Rattle.arrow_columns.proofs.RangeSteps.{got_holds}

-- ---- values, by the format and by its logical type

pub as_storage : (format : Format) (l : LogicalType) (z : ℤ) → IsLogicalTypeOf format l → IsValueOf format z → IsStorageOf l z
as_storage Float32 l z e h = subst (λ l. IsStorageOf l z) (sym e) h
as_storage Float64 l z e h = subst (λ l. IsStorageOf l z) (sym e) h
as_storage Date32 l z e h = subst (λ l. IsStorageOf l z) (sym e) h
as_storage (Time unit) l z e h = subst (λ l. IsStorageOf l z) (sym e) h
as_storage (Timestamp unit is_zoned) l z e h = subst (λ l. IsStorageOf l z) (sym e) h
as_storage (Decimal width precision scale) (logical.Decimal d) z e h = subst (λ p. unsigned_abs z < 10 ^ p) (sym e.1) h
as_storage (Decimal width precision scale) logical.Float32 z e h = absurd e
as_storage (Decimal width precision scale) logical.Float64 z e h = absurd e
as_storage (Decimal width precision scale) logical.Date z e h = absurd e
as_storage (Decimal width precision scale) (logical.Time unit) z e h = absurd e
as_storage (Decimal width precision scale) (logical.Timestamp unit is_zoned) z e h = absurd e

pub as_value : (format : Format) (l : LogicalType) (z : ℤ) → IsLogicalTypeOf format l → IsStorageOf l z → IsValueOf format z
as_value Float32 l z e h = subst (λ l. IsStorageOf l z) e h
as_value Float64 l z e h = subst (λ l. IsStorageOf l z) e h
as_value Date32 l z e h = subst (λ l. IsStorageOf l z) e h
as_value (Time unit) l z e h = subst (λ l. IsStorageOf l z) e h
as_value (Timestamp unit is_zoned) l z e h = subst (λ l. IsStorageOf l z) e h
as_value (Decimal width precision scale) (logical.Decimal d) z e h = subst (λ p. unsigned_abs z < 10 ^ p) e.1 h
as_value (Decimal width precision scale) logical.Float32 z e h = absurd e
as_value (Decimal width precision scale) logical.Float64 z e h = absurd e
as_value (Decimal width precision scale) logical.Date z e h = absurd e
as_value (Decimal width precision scale) (logical.Time unit) z e h = absurd e
as_value (Decimal width precision scale) (logical.Timestamp unit is_zoned) z e h = absurd e

pub is_sound : (format : Format) (l : LogicalType) → IsLogicalTypeOf format l → IsSound format
is_sound Float32 l e = tt
is_sound Float64 l e = tt
is_sound Date32 l e = tt
is_sound (Time unit) l e = tt
is_sound (Timestamp unit is_zoned) l e = tt
is_sound (Decimal width precision scale) (logical.Decimal d) e = e.0
is_sound (Decimal width precision scale) logical.Float32 e = absurd e
is_sound (Decimal width precision scale) logical.Float64 e = absurd e
is_sound (Decimal width precision scale) logical.Date e = absurd e
is_sound (Decimal width precision scale) (logical.Time unit) e = absurd e
is_sound (Decimal width precision scale) (logical.Timestamp unit is_zoned) e = absurd e

-- ---- rows

value_holds : (Q : ℤ → Type 0) (b : Bool) (x : ℤ) → Q x → IfSome (if b then Some x else None) Q
value_holds Q true x h = h
value_holds Q false x h = tt

-- what holds of each number that bytes stand for holds of that of each row
pub numbers_hold : (Q : ℤ → Type 0) (kind : ItemKind) (column : Column) → ((bytes : List ℕ) → Q (number_of kind bytes)) → (row : ℕ) (z : ℤ)
    → slice_get (item_cells kind column) row ≡ Some (Some z) → Q z
numbers_hold Q kind column h row z s =
    let V : ℕ → ℤ = λ i. number_of kind (item_at (width_of_item kind) column.values.now i) in
    got_holds (λ o. IfSome o Q) (item_cells kind column) row (Some z)
    (all_from (λ o. IfSome o Q) (cell_at column.validity.now V) column.offset column.length (column.offset + column.length) refl
    (λ k l f. value_holds Q (is_valid column.validity.now k) (V k) (h (item_at (width_of_item kind) column.values.now k)))) s

-- each float is a value
floats32 : (column : Column) → AreValuesBefore Float32 column column.length
floats32 column = λ row l z s. numbers_hold (IsValueOf Float32) F32 column (λ bytes. bits_are_storages binary32 (from_le_bytes w32 bytes)) row z s

floats64 : (column : Column) → AreValuesBefore Float64 column column.length
floats64 column = λ row l z s. numbers_hold (IsValueOf Float64) F64 column (λ bytes. bits_are_storages binary64 (from_le_bytes w64 bytes)) row z s

pub floats_are : (format : Format) (column : Column) → (format ≡ Float32) ⊎ (format ≡ Float64) → AreValuesBefore format column column.length
floats_are format column (inl e) = subst (λ f. AreValuesBefore f column column.length) (sym e) (floats32 column)
floats_are format column (inr e) = subst (λ f. AreValuesBefore f column column.length) (sym e) (floats64 column)

-- the first row that is no value, or none
abbrev pub SaysFirst : Format → Column → Option ℕ → Type 0
SaysFirst format column o =
    MatchOption o (AreValuesBefore format column column.length) (λ row. (row < column.length) × AreValuesBefore format column row × ¬ (IsValueRow format column row))

in_rows : (kind : ItemKind) (column : Column) (row : ℕ) (o : Option ℤ) → slice_get (item_cells kind column) row ≡ Some o → row < column.length
in_rows kind column row o s =
    let V : ℕ → ℤ = λ i. number_of kind (item_at (width_of_item kind) column.values.now i) in
    omega (arith, slice_get_within (item_cells kind column) row o s, length-map-range_with_len (cell_at column.validity.now V) column.offset column.length)

found_at : (format : Format) (l : LogicalType) (column : Column) (least greatest : ℤ) (o : Option ℕ) → IsLogicalTypeOf format l
    → ((z : ℤ) → IsStorageOf l z ↔ IsBetween least greatest z)
    → MatchOption o (AreWithinBefore least greatest (item_cells (items_of format) column) column.length) (IsFirstOutside least greatest (item_cells (items_of format) column))
    → SaysFirst format column o
found_at format l column least greatest None e t h = λ row b z s. as_value format l z e ((t z).1 (h row z b s))
found_at format l column least greatest (Some row) e t h = (
  in_rows (items_of format) column row (Some h.number) h.stands,
  λ k b z s. as_value format l z e ((t z).1 (h.before k z b s)),
  λ v. h.outside ((t h.number).0 (as_storage format l h.number e (v h.number h.stands))),
)

pub found : (format : Format) (l : LogicalType) (kind : ItemKind) (column : Column) (least greatest : ℤ) (o : Option ℕ) → kind ≡ items_of format → IsLogicalTypeOf format l
    → ((z : ℤ) → IsStorageOf l z ↔ IsBetween least greatest z)
    → MatchOption o (AreWithinBefore least greatest (item_cells kind column) column.length) (IsFirstOutside least greatest (item_cells kind column))
    → SaysFirst format column o
found format l kind column least greatest o k e t h =
    found_at format l column least greatest o e t
    (subst (λ k. MatchOption o (AreWithinBefore least greatest (item_cells k column) column.length) (IsFirstOutside least greatest (item_cells k column))) k h)

-- ---- the rows that were tested

pub logical_column : (format : Format) (column : Column) (rows : ItemRows) → rows.kind ≡ items_of format → rows.column ≡ column → IsItemColumn (items_of format) column
logical_column format column rows k e = subst (IsItemColumn (items_of format)) e (subst (λ kind. IsItemColumn kind rows.column) k rows.is_column)

pub logical_values : (format : Format) (column : Column) (rows : ItemRows) (l : LogicalType) → rows.column ≡ column → IsLogicalTypeOf format l
    → AreValuesBefore format rows.column rows.column.length → IsSound format × AreValuesBefore format column column.length
logical_values format column rows l e is h = (is_sound format l is, subst (λ c. AreValuesBefore format c c.length) e h)

pub logical_fault : (format : Format) (column : Column) (rows : ItemRows) (row : ℕ) → rows.kind ≡ items_of format → rows.column ≡ column
    → (row < rows.column.length) × AreValuesBefore format rows.column row × ¬ (IsValueRow format rows.column row) → IsLogicalError format column (NotAValue row)
logical_fault format column rows row k e h =
    subst (λ c. IsLogicalError format c (NotAValue row)) e (subst (λ kind. IsItemColumn kind rows.column) k rows.is_column, h.0, h.1, h.2)

pub item_fault : (format : Format) (column : Column) (fault : ColumnError) → IsItemError (items_of format) column fault → IsLogicalError format column fault
item_fault format column UnknownKind h = absurd h
item_fault format column TooManyRows h = h
item_fault format column (TooShort buffer) h = h
item_fault format column (BadOffsets row) h = h
item_fault format column (NotUtf8 row) h = h
item_fault format column (NotAValue row) h = absurd h
