-- The contents of a column that can be read are those of valid values of its type.
use Rattle.std.proofs.Common.{ℕ, ℤ, ◌+◌, ◌<◌, IsUtf8, List, map, length, get_or, arith, refl, subst, sym, Bool, Option, Some, None}
use Rattle.std.specs.List.{All}
use Rattle.std.specs.Option.{IfSome}
use Rattle.std.proofs.lemmas.List.{get_or-map, get_or-replicate, length-map, length-replicate}
use Rattle.arrow_columns.specs.Bitmaps.{bit_of, is_valid}
use Rattle.arrow_columns.specs.Cells.{cell_at}
use Rattle.arrow_columns.specs.Checked.{AreRowsOf}
use Rattle.arrow_columns.specs.Columns.{boolean_cells, byte_cells, integer_cells, logical_cells, offset_in, with_start}
use Rattle.arrow_columns.specs.Formats.{IsValueOf}
use Rattle.arrow_columns.specs.Integers.{integer_of, item_at, width_of}
use Rattle.arrow_columns.specs.Offsets.{bytes_between}
use Rattle.arrow_columns.specs.Spans.{AreBytes}
use Rattle.arrow_columns.specs.declared.columns.Column.{Column}
use Rattle.arrow_columns.specs.declared.kinds.IntegerKind.{IntegerKind}
use Rattle.arrow_columns.specs.declared.offset_width.OffsetWidth.{OffsetWidth}
use Rattle.arrow_columns.specs.declared.tested_rows.Rows.{Rows}
use Rattle.arrow_columns.specs.declared.tested_rows.Rows.TheVariants.{Booleans, Bytes, Integers, Nulls, Strings, Values}
use Rattle.vortex_dtype.specs.TypeTree.{TypeTree, binary_type, bool_type, integer_type, null_type, utf8_type}
use Rattle.vortex_dtype.specs.declared.nullability.Nullability.TheVariants.{Nullable}
use Rattle.vortex_pvalue.specs.Numbers.{InRange}
use Rattle.vortex_value.specs.Values.Content.{Content, null, string, text, truth, whole}
use Rattle.vortex_value.specs.Values.RawTree.{absent, raw_bool, raw_bytes, raw_integer, raw_text}
use Rattle.column_cells.specs.Contents.{HasTexts, content_or_null, contents_of_column, contents_of_rows, stored_content}
use Rattle.column_cells.specs.Laws.{ContentsAreOfType, IsOfType}
use Rattle.column_cells.specs.Types.{ptype_of_kind, type_of_format, type_of_rows}
use Rattle.column_cells.proofs.CellLaws.{all_cells, of_value}
use Rattle.column_cells.proofs.ContentLaws.{same_contents, same_type, texts_of, with_cases}
use Rattle.column_cells.proofs.FormatValues.{null_of_format, value_of_format}
use Rattle.column_cells.proofs.KindRanges.{in_kind, item_bytes, range_bytes}

-- what holds of each cell that is no null makes its content one of the type
each_of_type : {X : Type 0} (f : X → Content) (t : TypeTree) (P : X → Type 0) (cells : List (Option X)) → IsOfType t null → ((x : X) → P x → IsOfType t (f x)) → All (λ cell. IfSome cell P) cells
    → (row : ℕ) (d : Content) → row < length (map (content_or_null f) cells) → IsOfType t (get_or (map (content_or_null f) cells) row d)
each_of_type {X = X} f t P cells none has all row d l =
    let within : row < length cells = omega (arith, l, length-map cells (content_or_null f)) in
    subst (IsOfType t) (sym (get_or-map (content_or_null f) cells row None d within)) (by_cell (get_or cells row None) (all row None within))
  where
    by_cell : (cell : Option X) → IfSome cell P → IsOfType t (content_or_null f cell)
    by_cell None h = none
    by_cell (Some x) h = has x h

integers_in : (kind : IntegerKind) (column : Column) → AreBytes column.values.now → All (λ cell. IfSome cell (InRange (ptype_of_kind kind))) (integer_cells kind column)
integers_in kind column bytes =
    let value : ℕ → ℤ = λ i. integer_of kind (item_at (width_of kind) column.values.now i) in
    all_cells (λ cell. IfSome cell (InRange (ptype_of_kind kind))) (cell_at column.validity.now value) column.offset column.length
    (λ k l. of_value (InRange (ptype_of_kind kind)) (is_valid column.validity.now (column.offset + k)) (value (column.offset + k)) (λ _. in_kind kind _ (item_bytes (width_of kind) (column.offset + k) column.values.now bytes)))

truths_in : (column : Column) → All (λ cell. IfSome cell (λ (b : Bool). Unit {0})) (boolean_cells column)
truths_in column =
    all_cells (λ cell. IfSome cell (λ (b : Bool). Unit {0})) (cell_at column.validity.now (bit_of column.values.now)) column.offset column.length
    (λ k l. of_value (λ (b : Bool). Unit {0}) (is_valid column.validity.now (column.offset + k)) (bit_of column.values.now (column.offset + k)) (λ _. tt))

bytes_in : (width : OffsetWidth) (column : Column) → AreBytes column.values.now → All (λ cell. IfSome cell AreBytes) (byte_cells width column)
bytes_in width column bytes =
    let value : ℕ → List ℕ = bytes_between column.values.now (offset_in width column) in
    all_cells (λ cell. IfSome cell AreBytes) (cell_at column.validity.now value) column.offset column.length
    (λ k l. of_value AreBytes (is_valid column.validity.now (column.offset + k)) (value (column.offset + k)) (λ _. range_bytes _ _ column.values.now bytes))

both : (cells : List (Option (List ℕ))) → All (λ cell. IfSome cell AreBytes) cells → All (λ cell. IfSome cell (λ bytes. IsUtf8 bytes)) cells → All (λ cell. IfSome cell (λ bytes. AreBytes bytes × IsUtf8 bytes)) cells
both cells p q k d l = by_cell (get_or cells k d) (p k d l) (q k d l)
  where
    by_cell : (cell : Option (List ℕ)) → IfSome cell AreBytes → IfSome cell (λ bytes. IsUtf8 bytes) → IfSome cell (λ bytes. AreBytes bytes × IsUtf8 bytes)
    by_cell None g h = tt
    by_cell (Some bytes) g h = (g, h)

-- the bytes of the values of rows
abbrev AreRowBytes : Rows → Type 0
AreRowBytes (Integers rows) = AreBytes rows.column.values.now
AreRowBytes (Booleans rows) = Unit {0}
AreRowBytes (Strings rows) = AreBytes rows.column.values.now
AreRowBytes (Bytes rows) = AreBytes rows.column.values.now
AreRowBytes (Nulls count) = Unit {0}
AreRowBytes (Values rows) = Unit {0}

row_of_type : (rows : Rows) → HasTexts rows → AreRowBytes rows → (row : ℕ) (d : Content) → row < length (contents_of_rows rows) → IsOfType (type_of_rows rows) (get_or (contents_of_rows rows) row d)
row_of_type (Integers rows) texts bytes row d l =
    each_of_type whole (integer_type (ptype_of_kind rows.kind) Nullable) (InRange (ptype_of_kind rows.kind)) (integer_cells rows.kind rows.column) (record { value = absent; valid = refl; is = refl; bytes = tt })
    (λ z h. record { value = raw_integer (ptype_of_kind rows.kind) z; valid = (refl, h); is = refl; bytes = tt }) (integers_in rows.kind rows.column bytes) row d l
row_of_type (Booleans rows) texts bytes row d l =
    each_of_type truth (bool_type Nullable) (λ (b : Bool). Unit {0}) (boolean_cells rows.column) (record { value = absent; valid = refl; is = refl; bytes = tt }) (λ b h. record { value = raw_bool b; valid = tt; is = refl; bytes = tt }) (truths_in rows.column) row d l
row_of_type (Strings rows) texts bytes row d l =
    each_of_type text (utf8_type Nullable) (λ bs. AreBytes bs × IsUtf8 bs) (byte_cells rows.width rows.column) (record { value = absent; valid = refl; is = refl; bytes = tt }) (λ bs h. record { value = raw_text bs; valid = tt; is = refl; bytes = h })
    (both (byte_cells rows.width rows.column) (bytes_in rows.width rows.column bytes) texts) row d l
row_of_type (Bytes rows) texts bytes row d l =
    each_of_type string (binary_type Nullable) AreBytes (byte_cells rows.width rows.column) (record { value = absent; valid = refl; is = refl; bytes = tt }) (λ bs h. record { value = raw_bytes bs; valid = tt; is = refl; bytes = h })
    (bytes_in rows.width rows.column bytes) row d l
row_of_type (Nulls count) texts bytes row d l =
    subst (IsOfType null_type) (sym (get_or-replicate count row null d (omega (arith, l, length-replicate count null)))) (record { value = absent; valid = refl; is = refl; bytes = tt })
row_of_type (Values rows) texts bytes row d l =
    each_of_type (stored_content rows.format) (type_of_format rows.format) (IsValueOf rows.format) (logical_cells rows.format rows.column) (null_of_format rows.format)
    (λ z h. value_of_format rows.format z texts.0 h) texts.1 row d l

bytes_start : (column : Column) → AreBytes column.values.now → AreBytes (with_start column).values.now
bytes_start column h = with_cases column (λ c. AreBytes c.values.now) (λ e. h) h

row_bytes : (column : Column) (rows : Rows) → AreRowsOf column rows → AreBytes column.values.now → AreRowBytes rows
row_bytes column (Integers rows) h bytes = subst (λ (c : Column). AreBytes c.values.now) (sym h.1) (bytes_start column bytes)
row_bytes column (Booleans rows) h bytes = tt
row_bytes column (Strings rows) h bytes = subst (λ (c : Column). AreBytes c.values.now) (sym h.1) (bytes_start column bytes)
row_bytes column (Bytes rows) h bytes = subst (λ (c : Column). AreBytes c.values.now) (sym h.1) (bytes_start column bytes)
row_bytes column (Nulls count) h bytes = tt
row_bytes column (Values rows) h bytes = tt

pub of_type : ContentsAreOfType
of_type column rows row d h bytes l =
    let same = same_contents column rows h in
    subst (λ t. IsOfType t (get_or (contents_of_column column) row d)) (same_type column rows h)
    (subst (λ cs. IsOfType (type_of_rows rows) (get_or cs row d)) same (row_of_type rows (texts_of column rows h) (row_bytes column rows h bytes) row d (subst (λ cs. row < length cs) (sym same) l)))
