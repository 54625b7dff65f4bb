-- The way from columns to keys and back, of columns that have keys.
use Rattle.std.proofs.Common.{◌≡◌, ◌∙◌, ℕ, suc, ◌<◌, ℤ, pos, negsuc, Bool, true, false, if◌then◌else◌, codes, nat_le, List, [], ◌∷◌, length, map, get_or, refl, sym, subst, arith, Option, None, Some, slice_get}
use Rattle.std.proofs.lemmas.List.{get_or-map, length-map}
use Rattle.std.proofs.lemmas.Option.{slice_get_within}
use Rattle.arrow_columns.specs.Checked.{AreRowsOf}
use Rattle.arrow_columns.specs.Columns.{kind_in, rows_in}
use Rattle.arrow_columns.specs.Spans.{AreBytes}
use Rattle.arrow_columns.specs.declared.columns.Column.{Column}
use Rattle.arrow_columns.specs.declared.kinds.Kind.{Kind}
use Rattle.arrow_columns.specs.declared.kinds.Kind.TheVariants.{Binary, Boolean, Integer, LargeBinary, LargeUtf8, Logical, Null, Utf8}
use Rattle.arrow_columns.specs.declared.formats.Format.{Format}
use Rattle.arrow_columns.specs.declared.formats.Format.TheVariants as formats
use Rattle.arrow_columns.specs.declared.tested_rows.Rows.{Rows}
use Rattle.column_cells.specs.Contents.{contents_of_column}
use Rattle.column_cells.specs.Laws.{ContentsAreOfType, HasBytes, IsOfType}
use Rattle.column_cells.specs.Types.{type_at, type_of_column, type_of_format}
use Rattle.logical_scalars.specs.Stored.{storage_tree}
use Rattle.logical_types.specs.declared.extensions.StorageType.TheVariants as storages
use Rattle.logical_types.specs.declared.times.TimeUnit.TheVariants.{Seconds, Milliseconds, Microseconds, Nanoseconds}
use Rattle.vortex_dtype.specs.TypeTree.{extension_type}
use Rattle.vortex_dtype.specs.declared.nullability.Nullability.TheVariants.{Nullable}
use Rattle.vortex_dtype.specs.TypeOf.{as_type_trees}
use Rattle.vortex_dtype.specs.declared.ptype.PType.{PType}
use Rattle.vortex_dtype.specs.declared.ptype.PType.TheVariants as types
use Rattle.vortex_pvalue.specs.Numbers.{InRange}
use Rattle.vortex_row.specs.Held.{IsHeld, IsWhole}
use Rattle.vortex_row.specs.Laws.{KeysAreApart, ValuesHaveNoTyped}
use Rattle.vortex_value.specs.TypesWithin.{HaveNoVariant}
use Rattle.vortex_value.specs.Validity.{Valid}
use Rattle.vortex_value.specs.Values.Content.{Content, content}
use Rattle.vortex_value.specs.Values.RawTree.{RawTree, RawTrees, absent, raw_bool, raw_bytes, raw_integer, raw_text, raw_tuple, raw_union, raw_variant}
use Rattle.column_keys.specs.Cells.{AreCellsOf}
use Rattle.column_keys.specs.Laws.{AreColumnsOf, IsContentOf, TablesComeBack}
use Rattle.column_keys.specs.Tables.{contents_in, options_in}
use Rattle.column_keys.proofs.GivenSteps.{plain-kind}
use Rattle.column_keys.proofs.LawSteps.{columns-come-back}

-- ---- a value of the type of a column is one that memory holds

whole-held : (p : PType) (z : ℤ) → InRange p z → IsWhole z
whole-held types.U8 (pos n) h = omega (arith, h)
whole-held types.U8 (negsuc n) h = absurd h
whole-held types.U16 (pos n) h = omega (arith, h)
whole-held types.U16 (negsuc n) h = absurd h
whole-held types.U32 (pos n) h = omega (arith, h)
whole-held types.U32 (negsuc n) h = absurd h
whole-held types.U64 (pos n) h = omega (arith, h)
whole-held types.U64 (negsuc n) h = absurd h
whole-held types.I8 (pos n) h = omega (arith, h.sfits)
whole-held types.I8 (negsuc n) h = omega (arith, h.sfits)
whole-held types.I16 (pos n) h = omega (arith, h.sfits)
whole-held types.I16 (negsuc n) h = omega (arith, h.sfits)
whole-held types.I32 (pos n) h = omega (arith, h.sfits)
whole-held types.I32 (negsuc n) h = omega (arith, h.sfits)
whole-held types.I64 (pos n) h = omega (arith, h.sfits)
whole-held types.I64 (negsuc n) h = omega (arith, h.sfits)

decimal-held : (b : Bool) (id metadata : List ℕ) (l : PType) (z : ℤ) → Valid (extension_type id metadata (storage_tree (if b then storages.I64 else storages.Bytes) Nullable)) (raw_integer l z) → IsWhole z
decimal-held true id metadata l z h = whole-held types.I64 z h.1
decimal-held false id metadata l z h = absurd h

value-integer : (format : Format) (l : PType) (z : ℤ) → Valid (type_of_format format) (raw_integer l z) → IsWhole z
value-integer formats.Float32 l z h = whole-held types.I32 z h.1
value-integer formats.Float64 l z h = whole-held types.I64 z h.1
value-integer formats.Date32 l z h = whole-held types.I32 z h.1
value-integer (formats.Time Seconds) l z h = whole-held types.I32 z h.1
value-integer (formats.Time Milliseconds) l z h = whole-held types.I32 z h.1
value-integer (formats.Time Microseconds) l z h = whole-held types.I64 z h.1
value-integer (formats.Time Nanoseconds) l z h = whole-held types.I64 z h.1
value-integer (formats.Timestamp unit is_zoned) l z h = whole-held types.I64 z h.1
value-integer (formats.Decimal width precision scale) l z h = decimal-held (nat_le precision 18) (codes "doqallin.decimal") (precision ∷ scale ∷ []) l z h

decimal-tuple : (b : Bool) (id metadata : List ℕ) (vs : RawTrees) → Valid (extension_type id metadata (storage_tree (if b then storages.I64 else storages.Bytes) Nullable)) (raw_tuple vs) → ⊥
decimal-tuple true id metadata vs h = h
decimal-tuple false id metadata vs h = h

value-tuple : (format : Format) (vs : RawTrees) → Valid (type_of_format format) (raw_tuple vs) → ⊥
value-tuple formats.Float32 vs h = h
value-tuple formats.Float64 vs h = h
value-tuple formats.Date32 vs h = h
value-tuple (formats.Time Seconds) vs h = h
value-tuple (formats.Time Milliseconds) vs h = h
value-tuple (formats.Time Microseconds) vs h = h
value-tuple (formats.Time Nanoseconds) vs h = h
value-tuple (formats.Timestamp unit is_zoned) vs h = h
value-tuple (formats.Decimal width precision scale) vs h = decimal-tuple (nat_le precision 18) (codes "doqallin.decimal") (precision ∷ scale ∷ []) vs h

decimal-union : (b : Bool) (id metadata : List ℕ) (i : ℕ) (v : RawTree) → Valid (extension_type id metadata (storage_tree (if b then storages.I64 else storages.Bytes) Nullable)) (raw_union i v) → ⊥
decimal-union true id metadata i v h = h
decimal-union false id metadata i v h = h

value-union : (format : Format) (i : ℕ) (v : RawTree) → Valid (type_of_format format) (raw_union i v) → ⊥
value-union formats.Float32 i v h = h
value-union formats.Float64 i v h = h
value-union formats.Date32 i v h = h
value-union (formats.Time Seconds) i v h = h
value-union (formats.Time Milliseconds) i v h = h
value-union (formats.Time Microseconds) i v h = h
value-union (formats.Time Nanoseconds) i v h = h
value-union (formats.Timestamp unit is_zoned) i v h = h
value-union (formats.Decimal width precision scale) i v h = decimal-union (nat_le precision 18) (codes "doqallin.decimal") (precision ∷ scale ∷ []) i v h

integer-held : (o : Option Kind) (l : PType) (z : ℤ) → Valid (type_at o) (raw_integer l z) → IsWhole z
integer-held (Some (Integer kind)) l z h = whole-held _ z h.1
integer-held None l z h = absurd h
integer-held (Some Boolean) l z h = absurd h
integer-held (Some Utf8) l z h = absurd h
integer-held (Some LargeUtf8) l z h = absurd h
integer-held (Some Binary) l z h = absurd h
integer-held (Some LargeBinary) l z h = absurd h
integer-held (Some Null) l z h = absurd h
integer-held (Some (Logical format)) l z h = value-integer format l z h

no-tuple : (o : Option Kind) (vs : RawTrees) → Valid (type_at o) (raw_tuple vs) → ⊥
no-tuple None vs h = h
no-tuple (Some Null) vs h = h
no-tuple (Some (Integer kind)) vs h = h
no-tuple (Some Boolean) vs h = h
no-tuple (Some Utf8) vs h = h
no-tuple (Some LargeUtf8) vs h = h
no-tuple (Some Binary) vs h = h
no-tuple (Some LargeBinary) vs h = h
no-tuple (Some (Logical format)) vs h = value-tuple format vs h

no-union : (o : Option Kind) (i : ℕ) (v : RawTree) → Valid (type_at o) (raw_union i v) → ⊥
no-union None i v h = h
no-union (Some Null) i v h = h
no-union (Some (Integer kind)) i v h = h
no-union (Some Boolean) i v h = h
no-union (Some Utf8) i v h = h
no-union (Some LargeUtf8) i v h = h
no-union (Some Binary) i v h = h
no-union (Some LargeBinary) i v h = h
no-union (Some (Logical format)) i v h = value-union format i v h

value-held : (o : Option Kind) (v : RawTree) → Valid (type_at o) v → HasBytes (content v) → IsHeld (content v)
value-held o absent h b = tt
value-held o (raw_bool x) h b = tt
value-held o (raw_integer l z) h b = integer-held o l z h
value-held o (raw_text bs) h b = b
value-held o (raw_bytes bs) h b = b
value-held o (raw_tuple vs) h b = absurd (no-tuple o vs h)
value-held o (raw_union i v) h b = absurd (no-union o i v h)
value-held o (raw_variant t v) h b = tt

content-of : (column : Column) (c : Content) → IsOfType (type_of_column column) c → IsContentOf (type_of_column column) c
content-of column c it = record {
  value = it.value;
  of_type = record { valid = it.valid; held = value-held (kind_in column) it.value it.valid (subst HasBytes (sym it.is) it.bytes) };
  is = it.is;
}

-- ---- the columns

abbrev IsRead : Column → ℕ → Type 0
IsRead column count = ((rows : Rows) × AreRowsOf column rows) × (length (contents_of_column column) ≡ count) × AreBytes column.values.now

columns-of : ContentsAreOfType → (columns : List Column) (count : ℕ) → ((k : ℕ) (column : Column) → slice_get columns k ≡ Some column → IsRead column count) → AreColumnsOf (map type_of_column columns) count (contents_in columns)
columns-of law [] count h = tt
columns-of law (column ∷ columns) count h =
    let one = h 0 column refl in (
      one.1,
      λ row d l. content-of column (get_or (contents_of_column column) row d) (law column one.0.0 row d one.0.1 one.2 (omega (arith, l, one.1))),
      columns-of law columns count (λ k other e. h (suc k) other e),
    )

within : (columns : List Column) (k : ℕ) (column : Column) → slice_get columns k ≡ Some column → k < length columns
within columns k column e = slice_get_within columns k column e

plain-columns : (columns : List Column) → HaveNoVariant (as_type_trees (map type_of_column columns))
plain-columns [] = tt
plain-columns (column ∷ columns) = (plain-kind (kind_in column), plain-columns columns)

pub tables-come-back : KeysAreApart → ValuesHaveNoTyped → ContentsAreOfType → TablesComeBack
tables-come-back apart plain law columns options offsets bytes which d table keys ends l =
    let counts : length (map options_in options) ≡ length (map type_of_column columns) = length-map options options_in ∙ table.counts ∙ sym (length-map columns type_of_column) in
    let all = columns-of law columns (rows_in columns) (λ k column e. let one = table.sound k column (within columns k column e) e in ((one.rows, one.readable), one.even, table.bytes k column e)) in
    let back =
    columns-come-back apart plain (map type_of_column columns) (map options_in options) (contents_in columns) (rows_in columns) offsets bytes which counts (plain-columns columns) all keys ends (omega (arith, l, length-map columns contents_of_column))
    in
    let there : get_or (contents_in columns) which [] ≡ contents_of_column (get_or columns which d) = get_or-map contents_of_column columns which d [] l in
    (subst (λ cells. AreCellsOf (map options_in options) (as_type_trees (map type_of_column columns)) which bytes offsets cells) there back.0, λ cells other. back.1 cells other ∙ there)
