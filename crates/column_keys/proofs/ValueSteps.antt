-- Steps of reading the value of a row.
use Rattle.std.proofs.Common.{◌≡◌, ◌∙◌, ℕ, zero, suc, ℤ, pos, negsuc, ◌+◌, ◌-◌, ◌*◌, ◌^◌, ◌<◌, IsUtf8, List, [], ◌∷◌, map, drop, take, length, replicate, arith, ap, refl, subst, sym, Option, Some, None, slice_get, get_or, Bool, true, false, if◌then◌else◌}
use Rattle.std.specs.Int.{from_le_bytes, cast_signed, w8, w16, w32, w64}
use Rattle.std.specs.Prelude.{FitsSigned}
use Rattle.std.proofs.Math.Facts.{sfits_to_z}
use Rattle.std.specs.List.{All, range_with_len}
use Rattle.std.specs.Option.{IfSome}
use Rattle.std.proofs.lemmas.List.{get_or-drop, get_or-replicate, length-map, length-replicate}
use Rattle.std.proofs.lemmas.List.FromFn.{get_or-map-range_with_len, length-map-range_with_len}
use Rattle.std.proofs.lemmas.Option.{get_or_from_slice_get, slice_get-get_or, slice_get-map, slice_get_within}
use Rattle.arrow_columns.specs.Bitmaps.{is_valid}
use Rattle.arrow_columns.specs.Cells.{cell_at}
use Rattle.arrow_columns.specs.Columns.{boolean_cells, byte_cells, integer_cells}
use Rattle.arrow_columns.specs.Integers.{integer_of, item_at, width_of}
use Rattle.arrow_columns.specs.declared.columns.Column.{Column}
use Rattle.arrow_columns.specs.declared.kinds.IntegerKind.{IntegerKind}
use Rattle.arrow_columns.specs.declared.kinds.IntegerKind.TheVariants.{U8, U16, U32, U64, I8, I16, I32, I64}
use Rattle.arrow_columns.specs.declared.tested_rows.BooleanRows.{BooleanRows}
use Rattle.arrow_columns.specs.declared.tested_rows.ByteRows.{ByteRows}
use Rattle.arrow_columns.specs.declared.tested_rows.IntegerRows.{IntegerRows}
use Rattle.arrow_columns.specs.declared.tested_rows.Rows.{Rows}
use Rattle.arrow_columns.specs.declared.tested_rows.Rows.TheVariants.{Booleans, Bytes, Integers, Strings, Values}
use Rattle.arrow_columns.specs.Columns.{item_cells, logical_cells}
use Rattle.arrow_columns.specs.Formats.{IsValueOf, items_of}
use Rattle.arrow_columns.specs.declared.tested_rows.ItemRows.{ItemRows}
use Rattle.arrow_columns.specs.declared.tested_rows.LogicalRows.{LogicalRows}
use Rattle.column_cells.specs.Contents.{stored_content}
use Rattle.vortex_value.specs.Values.Content.{Content, null, string, text, truth, whole}
use Rattle.vortex_row.specs.Held.{IsWhole}
use Rattle.column_cells.specs.Contents.{HasTexts, content_or_null, contents_of_rows}
use Rattle.arrow_columns.specs.Spans.{AreBytes}

-- how many cells there are
pub cells-count : {X : Type 0} (f : Option X → Content) (cell : ℕ → Option X) (from n row : ℕ) → row < length (map f (map cell (range_with_len from n))) → row < n
cells-count f cell from n row h = omega (arith, h, length-map (map cell (range_with_len from n)) f, length-map-range_with_len cell from n)

-- the content of a row, by its cell
pub content-got : {X : Type 0} (f : Option X → Content) (cells : List (Option X)) (row : ℕ) (o : Option X) (c : Content) → slice_get cells row ≡ Some o → c ≡ f o → c ≡ get_or (map f cells) row null
content-got f cells row o c e same = same ∙ sym (get_or_from_slice_get (map f cells) row (f o) null (slice_get-map f cells row ∙ ap (λ x. option_then f x) e))
  where
    option_then : {A B : Type 0} (f : A → B) → Option A → Option B
    option_then f (Some x) = Some (f x)
    option_then f None = None

pub null-got : (n row : ℕ) → row < length (replicate n null) → null ≡ get_or (replicate n null) row null
null-got n row l = sym (get_or-replicate n row null null (omega (arith, l, length-replicate n null)))

-- a string is text
got-holds : {X : Type 0} (P : X → Type 0) (cells : List X) (row : ℕ) (x : X) → All P cells → slice_get cells row ≡ Some x → P x
got-holds P cells row x h e = subst P (get_or_from_slice_get cells row x x e) (h row x (slice_get_within cells row x e))

pub text-valid : (cells : List (Option (List ℕ))) (row : ℕ) (o : Option (List ℕ)) → All (λ cell. IfSome cell (λ bytes. IsUtf8 bytes)) cells → slice_get cells row ≡ Some o → IfSome o (λ bytes. IsUtf8 bytes)
text-valid cells row o h e = got-holds (λ cell. IfSome cell (λ bytes. IsUtf8 bytes)) cells row o h e

-- an integer of a kind has no more than 64 bits

taken : (n : ℕ) (bytes : List ℕ) → AreBytes bytes → AreBytes (take n bytes)
taken zero bytes h k = omega arith
taken (suc n) [] h k = omega arith
taken (suc n) (b ∷ bytes) h zero = h 0
taken (suc n) (b ∷ bytes) h (suc k) = taken n bytes (λ j. h (suc j)) k

dropped : (n : ℕ) (bytes : List ℕ) → AreBytes bytes → AreBytes (drop n bytes)
dropped n bytes h k = subst (λ b. b < 256) (sym (get_or-drop n bytes k 0)) (h (n + k))

item-bytes : (n i : ℕ) (buffer : List ℕ) → AreBytes buffer → AreBytes (item_at n buffer i)
item-bytes n i buffer h = taken (i * n + n - i * n) (drop (i * n) buffer) (dropped (i * n) buffer h)

below8 : (bytes : List ℕ) → AreBytes bytes → from_le_bytes w8 bytes < 2 ^ 8
below8 bytes h = omega (arith, h 0)

below16 : (bytes : List ℕ) → AreBytes bytes → from_le_bytes w16 bytes < 2 ^ 16
below16 bytes h = omega (arith, h 0, h 1)

below32 : (bytes : List ℕ) → AreBytes bytes → from_le_bytes w32 bytes < 2 ^ 32
below32 bytes h = omega (arith, h 0, h 1, h 2, h 3)

below64 : (bytes : List ℕ) → AreBytes bytes → from_le_bytes w64 bytes < 2 ^ 64
below64 bytes h = omega (arith, h 0, h 1, h 2, h 3, h 4, h 5, h 6, h 7)

signed8 : (z : ℤ) → FitsSigned w8 z → IsWhole z
signed8 (pos n) h = let s = h.sfits in omega arith
signed8 (negsuc n) h = let s = h.sfits in omega arith

signed16 : (z : ℤ) → FitsSigned w16 z → IsWhole z
signed16 (pos n) h = let s = h.sfits in omega arith
signed16 (negsuc n) h = let s = h.sfits in omega arith

signed32 : (z : ℤ) → FitsSigned w32 z → IsWhole z
signed32 (pos n) h = let s = h.sfits in omega arith
signed32 (negsuc n) h = let s = h.sfits in omega arith

pub signed64 : (z : ℤ) → FitsSigned w64 z → IsWhole z
signed64 (pos n) h = let s = h.sfits in omega arith
signed64 (negsuc n) h = let s = h.sfits in omega arith

integer-whole : (kind : IntegerKind) (bytes : List ℕ) → AreBytes bytes → IsWhole (integer_of kind bytes)
integer-whole U8 bytes h = omega (arith, below8 bytes h)
integer-whole U16 bytes h = omega (arith, below16 bytes h)
integer-whole U32 bytes h = omega (arith, below32 bytes h)
integer-whole U64 bytes h = below64 bytes h
integer-whole I8 bytes h = signed8 (cast_signed w8 (from_le_bytes w8 bytes)) (sfits_to_z (record { fits = below8 bytes h }))
integer-whole I16 bytes h = signed16 (cast_signed w16 (from_le_bytes w16 bytes)) (sfits_to_z (record { fits = below16 bytes h }))
integer-whole I32 bytes h = signed32 (cast_signed w32 (from_le_bytes w32 bytes)) (sfits_to_z (record { fits = below32 bytes h }))
integer-whole I64 bytes h = signed64 (cast_signed w64 (from_le_bytes w64 bytes)) (sfits_to_z (record { fits = below64 bytes h }))

-- the cell of a row is that of the list

same-value : {X : Type 0} (x y : X) → Some x ≡ Some y → x ≡ y
same-value x y e = cc

cell-is : {X : Type 0} (cell : ℕ → Option X) (from n row : ℕ) (o : Option X) → row < n → slice_get (map cell (range_with_len from n)) row ≡ Some o → cell (from + row) ≡ o
cell-is cell from n row o l e =
    let cells = map cell (range_with_len from n) in
    let within : row < length cells = omega (arith, l, length-map-range_with_len cell from n) in
    let got : slice_get cells row ≡ Some (cell (from + row)) = slice_get-get_or cells row None within ∙ ap Some (get_or-map-range_with_len cell from n row (from + row) None l refl) in
    same-value (cell (from + row)) o (sym got ∙ e)

of-value : {X : Type 0} (P : X → Type 0) (b : Bool) (x : X) → P x → IfSome (if b then Some x else None) P
of-value P true x h = h
of-value P false x h = tt

pub integer-held : (kind : IntegerKind) (column : Column) (row : ℕ) (o : Option ℤ) → row < column.length → AreBytes column.values.now → slice_get (integer_cells kind column) row ≡ Some o → IfSome o IsWhole
integer-held kind column row o l b e =
    let value : ℕ → ℤ = λ i. integer_of kind (item_at (width_of kind) column.values.now i) in
    let i : ℕ = column.offset + row in
    subst (λ v. IfSome v IsWhole) (cell-is (cell_at column.validity.now value) column.offset column.length row o l e)
    (of-value IsWhole (is_valid column.validity.now i) (value i) (integer-whole kind _ (item-bytes (width_of kind) i column.values.now b)))

-- the row of each kind of column, and its content

pub integer-within : (all : Rows) (rows : IntegerRows) (row : ℕ) → all ≡ Integers rows → row < length (contents_of_rows all) → row < rows.column.length
integer-within all rows row e h = cells-count _ _ _ _ row (subst (λ r. row < length (contents_of_rows r)) e h)

pub boolean-within : (all : Rows) (rows : BooleanRows) (row : ℕ) → all ≡ Booleans rows → row < length (contents_of_rows all) → row < rows.column.length
boolean-within all rows row e h = cells-count _ _ _ _ row (subst (λ r. row < length (contents_of_rows r)) e h)

pub string-within : (all : Rows) (rows : ByteRows) (row : ℕ) → all ≡ Strings rows → row < length (contents_of_rows all) → row < rows.column.length
string-within all rows row e h = cells-count _ _ _ _ row (subst (λ r. row < length (contents_of_rows r)) e h)

pub byte-within : (all : Rows) (rows : ByteRows) (row : ℕ) → all ≡ Bytes rows → row < length (contents_of_rows all) → row < rows.column.length
byte-within all rows row e h = cells-count _ _ _ _ row (subst (λ r. row < length (contents_of_rows r)) e h)

pub integer-got : (all : Rows) (rows : IntegerRows) (row : ℕ) (o : Option ℤ) (c : Content) → all ≡ Integers rows → slice_get (integer_cells rows.kind rows.column) row ≡ Some o → c ≡ content_or_null whole o → c ≡ get_or (contents_of_rows all) row null
integer-got all rows row o c e got same = content-got (content_or_null whole) _ row o c got same ∙ ap (λ r. get_or (contents_of_rows r) row null) (sym e)

pub boolean-got : (all : Rows) (rows : BooleanRows) (row : ℕ) (o : Option Bool) (c : Content) → all ≡ Booleans rows → slice_get (boolean_cells rows.column) row ≡ Some o → c ≡ content_or_null truth o → c ≡ get_or (contents_of_rows all) row null
boolean-got all rows row o c e got same = content-got (content_or_null truth) _ row o c got same ∙ ap (λ r. get_or (contents_of_rows r) row null) (sym e)

pub string-got : (all : Rows) (rows : ByteRows) (row : ℕ) (o : Option (List ℕ)) (c : Content) → all ≡ Strings rows → slice_get (byte_cells rows.width rows.column) row ≡ Some o → c ≡ content_or_null text o → c ≡ get_or (contents_of_rows all) row null
string-got all rows row o c e got same = content-got (content_or_null text) _ row o c got same ∙ ap (λ r. get_or (contents_of_rows r) row null) (sym e)

pub byte-got : (all : Rows) (rows : ByteRows) (row : ℕ) (o : Option (List ℕ)) (c : Content) → all ≡ Bytes rows → slice_get (byte_cells rows.width rows.column) row ≡ Some o → c ≡ content_or_null string o → c ≡ get_or (contents_of_rows all) row null
byte-got all rows row o c e got same = content-got (content_or_null string) _ row o c got same ∙ ap (λ r. get_or (contents_of_rows r) row null) (sym e)

pub value-within : (all : Rows) (rows : LogicalRows) (numbers : ItemRows) (row : ℕ) → all ≡ Values rows → numbers.column ≡ rows.column → row < length (contents_of_rows all) → row < numbers.column.length
value-within all rows numbers row e same h =
    let inside : row < rows.column.length = cells-count _ _ _ _ row (subst (λ r. row < length (contents_of_rows r)) e h) in
    subst (λ c. row < c.length) (sym same) inside

-- the cell of a row, by the numbers
value-cell : (rows : LogicalRows) (numbers : ItemRows) (row : ℕ) (o : Option ℤ) → numbers.kind ≡ items_of rows.format → numbers.column ≡ rows.column → slice_get (item_cells numbers.kind numbers.column) row ≡ Some o
    → slice_get (logical_cells rows.format rows.column) row ≡ Some o
value-cell rows numbers row o k same got =
    subst (λ c. slice_get (item_cells (items_of rows.format) c) row ≡ Some o) same (subst (λ kind. slice_get (item_cells kind numbers.column) row ≡ Some o) k got)

pub value-valid : (all : Rows) (rows : LogicalRows) (numbers : ItemRows) (row : ℕ) (o : Option ℤ) → all ≡ Values rows → HasTexts all → numbers.kind ≡ items_of rows.format → numbers.column ≡ rows.column
    → slice_get (item_cells numbers.kind numbers.column) row ≡ Some o → IfSome o (IsValueOf rows.format)
value-valid all rows numbers row o e texts k same got =
    got-holds (λ cell. IfSome cell (IsValueOf rows.format)) (logical_cells rows.format rows.column) row o (subst HasTexts e texts).1 (value-cell rows numbers row o k same got)

pub value-got : (all : Rows) (rows : LogicalRows) (numbers : ItemRows) (row : ℕ) (o : Option ℤ) (c : Content) → all ≡ Values rows → numbers.kind ≡ items_of rows.format → numbers.column ≡ rows.column
    → slice_get (item_cells numbers.kind numbers.column) row ≡ Some o → c ≡ content_or_null (stored_content rows.format) o → c ≡ get_or (contents_of_rows all) row null
value-got all rows numbers row o c e k kept got same =
    content-got (content_or_null (stored_content rows.format)) _ row o c (value-cell rows numbers row o k kept got) same ∙ ap (λ r. get_or (contents_of_rows r) row null) (sym e)

pub string-valid : (all : Rows) (rows : ByteRows) (row : ℕ) (o : Option (List ℕ)) → all ≡ Strings rows → HasTexts all → slice_get (byte_cells rows.width rows.column) row ≡ Some o → IfSome o (λ bytes. IsUtf8 bytes)
string-valid all rows row o e h got = text-valid (byte_cells rows.width rows.column) row o (subst HasTexts e h) got

pub ruleset shown = (null-got)
