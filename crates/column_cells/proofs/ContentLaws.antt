-- The contents of columns: of one row, of all, and by the two ways to say of which column.
use Rattle.std.proofs.Common.{◌≡◌, ◌∙◌, ℕ, ℤ, ◌+◌, ◌<◌, ◌==◌, if◌then◌else◌, Bool, true, false, IsUtf8, List, map, length, get_or, replicate, arith, ap, refl, subst, sym, Option, Some, None, slice_get, option_map, IsErr, IsErrAnd, IsSomeAnd, MatchResult, Result, Ok, Err, IfErr, IfOk}
use Rattle.std.proofs.lemmas.Bool.Decides.{nat_tests}
use Rattle.std.proofs.lemmas.List.{get_or-replicate, length-map, length-replicate}
use Rattle.std.proofs.lemmas.List.FromFn.{length-map-range_with_len}
use Rattle.std.proofs.lemmas.Option.{get_or_from_slice_get, slice_get-get_or, slice_get-map, slice_get_within}
use Rattle.std.specs.List.{All, range_with_len}
use Rattle.std.specs.Option.{IfSome}
use Rattle.arrow_columns.specs.Bitmaps.{bit_of, is_valid}
use Rattle.arrow_columns.specs.Cells.{cell_at}
use Rattle.arrow_columns.specs.Checked.{AreRowsOf, byte_kind, string_kind}
use Rattle.arrow_columns.specs.Columns.{AreValuesBefore, byte_cells, integer_cells, logical_cells, offset_in, with_start}
use Rattle.arrow_columns.specs.Errors.{AreTextRows}
use Rattle.arrow_columns.specs.Formats.{IsValueOf, items_of}
use Rattle.arrow_columns.specs.Integers.{integer_of, item_at, number_of, width_of, width_of_item}
use Rattle.arrow_columns.specs.declared.formats.Format.{Format}
use Rattle.arrow_columns.specs.Offsets.{bytes_between}
use Rattle.arrow_columns.specs.declared.columns.Column.{Column}
use Rattle.arrow_columns.specs.declared.kinds.IntegerKind.{IntegerKind}
use Rattle.arrow_columns.specs.declared.offset_width.OffsetWidth.{OffsetWidth}
use Rattle.arrow_columns.specs.declared.offset_width.OffsetWidth.TheVariants.{Bits32, Bits64}
use Rattle.arrow_columns.specs.declared.tested_rows.Rows.{Rows}
use Rattle.arrow_columns.specs.declared.tested_rows.Rows.TheVariants.{Booleans, Bytes, Integers, Nulls, Strings, Values}
use Rattle.vortex_dtype.specs.declared.error.VortexError.{VortexError}
use Rattle.vortex_dtype.specs.declared.error.VortexError.TheVariants.{OutOfMemory}
use Rattle.vortex_dtype.specs.declared.types.DType.{DType}
use Rattle.vortex_pvalue.specs.Numbers.{InRange}
use Rattle.vortex_value.specs.Values.Content.{Content, content, null, string, text, truth, whole}
use Rattle.vortex_value.specs.declared.scalars.Scalar.{Scalar}
use Rattle.vortex_value.specs.declared.values.ScalarValue.{ScalarValue}
use Rattle.column_cells.specs.Contents.{HasTexts, IsLongContent, TakesMemory, byte_contents, content_or_null, contents_at, contents_of_column, contents_of_rows, boolean_contents, integer_contents, stored_content, text_contents, value_contents}
use Rattle.arrow_columns.specs.Spans.{AreBytes}
use Rattle.column_cells.specs.Types.{HasLogicalType, ptype_of_kind, type_at, type_of_column, type_of_rows}
use Rattle.column_cells.proofs.CellLaws.{all_cells, cell_is, of_value}
use Rattle.column_cells.proofs.KindRanges.{in_kind, item_bytes}
use Rattle.vortex_dtype.specs.declared.buffer.TheConstants.{INLINE_BYTES}

-- ---- how many, and the one of a row

pub length_contents : {X : Type 0} (f : Option X → Content) (cell : ℕ → Option X) (from n : ℕ) → length (map f (map cell (range_with_len from n))) ≡ n
length_contents f cell from n = length-map (map cell (range_with_len from n)) f ∙ length-map-range_with_len cell from n

pub content_got : {X : Type 0} (f : Option X → Content) (cells : List (Option X)) (row : ℕ) (o : Option X) (c : Content) → slice_get cells row ≡ Some o → c ≡ f o → slice_get (map f cells) row ≡ Some c
content_got f cells row o c e q = slice_get-map f cells row ∙ ap (option_map f) e ∙ ap Some (sym q)

pub null_got : (n row : ℕ) → row < length (replicate n null) → slice_get (replicate n null) row ≡ Some null
null_got n row l =
    let within : row < n = omega (arith, l, length-replicate n null) in
    slice_get-get_or (replicate n null) row null l ∙ ap Some (get_or-replicate n row null null within)

got_holds : {X : Type 0} (P : X → Type 0) (cells : List X) (row : ℕ) (x : X) → All P cells → slice_get cells row ≡ Some x → P x
got_holds P cells row x h e = subst P (get_or_from_slice_get cells row x x e) (h row x (slice_get_within cells row x e))

-- how many rows
abbrev pub rows_length : Rows → ℕ
rows_length (Integers rows) = rows.column.length
rows_length (Booleans rows) = rows.column.length
rows_length (Strings rows) = rows.column.length
rows_length (Bytes rows) = rows.column.length
rows_length (Nulls count) = count
rows_length (Values rows) = rows.column.length

pub length_of : (rows : Rows) → length (contents_of_rows rows) ≡ rows_length rows
length_of (Integers rows) = length_contents _ _ rows.column.offset rows.column.length
length_of (Booleans rows) = length_contents _ _ rows.column.offset rows.column.length
length_of (Strings rows) = length_contents _ _ rows.column.offset rows.column.length
length_of (Bytes rows) = length_contents _ _ rows.column.offset rows.column.length
length_of (Nulls count) = length-replicate count null
length_of (Values rows) = length_contents _ _ rows.column.offset rows.column.length

-- the same of rows that are known to be these
pub length_shown : (rows shown : Rows) → rows ≡ shown → rows_length shown ≡ length (contents_of_rows rows)
length_shown rows shown e = sym (ap (λ r. length (contents_of_rows r)) e ∙ length_of shown)

pub row_shown : (rows shown : Rows) (row : ℕ) → rows ≡ shown → row < length (contents_of_rows rows) → row < rows_length shown
row_shown rows shown row e l = subst (λ n. row < n) (sym (length_shown rows shown e)) l

pub content_shown : (rows shown : Rows) (row : ℕ) (x : Option Content) → rows ≡ shown → slice_get (contents_of_rows shown) row ≡ x → slice_get (contents_of_rows rows) row ≡ x
content_shown rows shown row x e h = ap (λ r. slice_get (contents_of_rows r) row) e ∙ h

-- what holds of each value that was given, and of each refusal
pub ok_all : {X E : Type 0} (r : Result X E) (P Q : X → Type 0) → ((x : X) → P x → Q x) → IfOk r P → IfOk r Q
ok_all (Ok x) P Q f h = f x h
ok_all (Err e) P Q f h = tt

pub err_all : {X E : Type 0} (r : Result X E) (P Q : E → Type 0) → ((e : E) → P e → Q e) → IfErr r P → IfErr r Q
err_all (Ok x) P Q f h = tt
err_all (Err e) P Q f h = f e h

-- a scalar of a type and of the value that was made for it
pub made_ok : (value : Result (Option ScalarValue) VortexError) (dtype : DType) (r : Result Scalar VortexError) (P : Option ScalarValue → Type 0) (Q : Scalar → Type 0)
    → MatchResult value (λ v. r ≡ Ok (record { dtype = dtype; value = v })) (λ e. r ≡ Err e) → IfOk value P → ((v : Option ScalarValue) → P v → Q (record { dtype = dtype; value = v })) → IfOk r Q
made_ok (Ok v) dtype r P Q made h f = subst (λ r. IfOk r Q) (sym made) (f v h)
made_ok (Err e) dtype r P Q made h f = subst (λ r. IfOk r Q) (sym made) tt

pub made_err : (value : Result (Option ScalarValue) VortexError) (dtype : DType) (r : Result Scalar VortexError) (P Q : VortexError → Type 0)
    → MatchResult value (λ v. r ≡ Ok (record { dtype = dtype; value = v })) (λ e. r ≡ Err e) → IfErr value P → ((e : VortexError) → P e → Q e) → IfErr r Q
made_err (Ok v) dtype r P Q made h f = subst (λ r. IfErr r Q) (sym made) tt
made_err (Err e) dtype r P Q made h f = subst (λ r. IfErr r Q) (sym made) (f e h)

-- what takes memory: the type, or the content

pub long_takes : (rows : Rows) (c : Content) → IsLongContent c → TakesMemory rows c
long_takes (Integers rows) c h = h
long_takes (Booleans rows) c h = h
long_takes (Strings rows) c h = h
long_takes (Bytes rows) c h = h
long_takes (Nulls count) c h = h
long_takes (Values rows) c h = tt

type_takes : (rows : Rows) (c : Content) → HasLogicalType rows → TakesMemory rows c
type_takes (Integers rows) c h = absurd h
type_takes (Booleans rows) c h = absurd h
type_takes (Strings rows) c h = absurd h
type_takes (Bytes rows) c h = absurd h
type_takes (Nulls count) c h = absurd h
type_takes (Values rows) c h = tt

some_weaker : (o : Option Content) (P Q : Content → Type 0) → ((c : Content) → P c → Q c) → IsSomeAnd o P → IsSomeAnd o Q
some_weaker (Some c) P Q f h = f c h
some_weaker None P Q f h = h

pub value_refused : (rows : Rows) (o : Option Content) (e : VortexError) → (e ≡ OutOfMemory) × IsSomeAnd o IsLongContent → (e ≡ OutOfMemory) × IsSomeAnd o (TakesMemory rows)
value_refused rows o e h = (h.0, some_weaker o IsLongContent (TakesMemory rows) (long_takes rows) h.1)

pub type_refused : (rows : Rows) (row : ℕ) (r : Result Scalar VortexError) (e : VortexError) → row < length (contents_of_rows rows) → IsErr r × IsErrAnd r (λ f. f ≡ e) → e ≡ OutOfMemory → HasLogicalType rows
    → IfErr r (λ e. (e ≡ OutOfMemory) × IsSomeAnd (slice_get (contents_of_rows rows) row) (TakesMemory rows))
type_refused rows row (Ok x) e l h m logical = tt
type_refused rows row (Err f) e l h m logical = (
  h.1 ∙ m,
  subst (λ o. IsSomeAnd o (TakesMemory rows)) (sym (slice_get-get_or (contents_of_rows rows) row null l)) (type_takes rows (get_or (contents_of_rows rows) row null) logical),
)

-- ---- what is known of a cell

pub integer_in_range : (kind : IntegerKind) (column : Column) (row : ℕ) (o : Option ℤ) → row < column.length → AreBytes column.values.now
    → slice_get (integer_cells kind column) row ≡ Some o → IfSome o (InRange (ptype_of_kind kind))
integer_in_range kind column row o l b e =
    let value : ℕ → ℤ = λ i. integer_of kind (item_at (width_of kind) column.values.now i) in
    let i : ℕ = column.offset + row in
    subst (λ v. IfSome v (InRange (ptype_of_kind kind))) (cell_is (cell_at column.validity.now value) column.offset column.length row o l e)
    (of_value (InRange (ptype_of_kind kind)) (is_valid column.validity.now i) (value i) (λ _. in_kind kind _ (item_bytes (width_of kind) i column.values.now b)))

pub text_valid : (cells : List (Option (List ℕ))) (row : ℕ) (o : Option (List ℕ)) → All (λ cell. IfSome cell (λ bytes. IsUtf8 bytes)) cells → slice_get cells row ≡ Some o → IfSome o (λ bytes. IsUtf8 bytes)
text_valid cells row o h e = got_holds (λ cell. IfSome cell (λ bytes. IsUtf8 bytes)) cells row o h e

long_text_cell : (o : Option (List ℕ)) → IsSomeAnd o (λ bytes. INLINE_BYTES < length bytes) → IsLongContent (content_or_null text o)
long_text_cell (Some bytes) h = h
long_text_cell None h = h

long_byte_cell : (o : Option (List ℕ)) → IsSomeAnd o (λ bytes. INLINE_BYTES < length bytes) → IsLongContent (content_or_null string o)
long_byte_cell (Some bytes) h = h
long_byte_cell None h = h

pub long_text : (cells : List (Option (List ℕ))) (row : ℕ) (o : Option (List ℕ)) → slice_get cells row ≡ Some o → IsSomeAnd o (λ bytes. INLINE_BYTES < length bytes)
    → IsSomeAnd (slice_get (map (content_or_null text) cells) row) IsLongContent
long_text cells row o e h = subst (λ c. IsSomeAnd c IsLongContent) (sym (content_got (content_or_null text) cells row o _ e refl)) (long_text_cell o h)

pub long_bytes : (cells : List (Option (List ℕ))) (row : ℕ) (o : Option (List ℕ)) → slice_get cells row ≡ Some o → IsSomeAnd o (λ bytes. INLINE_BYTES < length bytes)
    → IsSomeAnd (slice_get (map (content_or_null string) cells) row) IsLongContent
long_bytes cells row o e h = subst (λ c. IsSomeAnd c IsLongContent) (sym (content_got (content_or_null string) cells row o _ e refl)) (long_byte_cell o h)

-- ---- by the rows, and by the column

text_at : (width : OffsetWidth) (column : Column) → contents_at (Some (string_kind width)) column ≡ text_contents width column
text_at Bits32 column = refl
text_at Bits64 column = refl

bytes_at : (width : OffsetWidth) (column : Column) → contents_at (Some (byte_kind width)) column ≡ byte_contents width column
bytes_at Bits32 column = refl
bytes_at Bits64 column = refl

-- ---- a column without rows begins with its buffers

pub with_cases : (column : Column) (P : Column → Type 0) → (column.length ≡ 0 → P (record column { offset = 0 })) → P column → P (with_start column)
with_cases column P none same = by_test (column.length == 0) refl
  where
    by_test : (b : Bool) → (column.length == 0) ≡ b → P (if b then record column { offset = 0 } else column)
    by_test true e = none (grind (arith, nat_tests))
    by_test false e = same

no_cells : {X : Type 0} (f : Option X → Content) (cell : ℕ → Option X) (from other n : ℕ) → n ≡ 0 → map f (map cell (range_with_len from n)) ≡ map f (map cell (range_with_len other n))
no_cells f cell from other n e = ap (λ k. map f (map cell (range_with_len from k))) e ∙ sym (ap (λ k. map f (map cell (range_with_len other k))) e)

integers_start : (kind : IntegerKind) (column : Column) → integer_contents kind (with_start column) ≡ integer_contents kind column
integers_start kind column =
    with_cases column (λ c. integer_contents kind c ≡ integer_contents kind column)
    (λ e. no_cells (content_or_null whole) (cell_at column.validity.now (λ i. integer_of kind (item_at (width_of kind) column.values.now i))) 0 column.offset column.length e) refl

booleans_start : (column : Column) → boolean_contents (with_start column) ≡ boolean_contents column
booleans_start column =
    with_cases column (λ c. boolean_contents c ≡ boolean_contents column) (λ e. no_cells (content_or_null truth) (cell_at column.validity.now (bit_of column.values.now)) 0 column.offset column.length e) refl

texts_start : (width : OffsetWidth) (column : Column) → text_contents width (with_start column) ≡ text_contents width column
texts_start width column =
    with_cases column (λ c. text_contents width c ≡ text_contents width column)
    (λ e. no_cells (content_or_null text) (cell_at column.validity.now (bytes_between column.values.now (offset_in width column))) 0 column.offset column.length e) refl

bytes_start : (width : OffsetWidth) (column : Column) → byte_contents width (with_start column) ≡ byte_contents width column
bytes_start width column =
    with_cases column (λ c. byte_contents width c ≡ byte_contents width column)
    (λ e. no_cells (content_or_null string) (cell_at column.validity.now (bytes_between column.values.now (offset_in width column))) 0 column.offset column.length e) refl

values_start : (format : Format) (column : Column) → value_contents format (with_start column) ≡ value_contents format column
values_start format column =
    let kind = items_of format in
    with_cases column (λ c. value_contents format c ≡ value_contents format column)
    (λ e. no_cells (content_or_null (stored_content format)) (cell_at column.validity.now (λ i. number_of kind (item_at (width_of_item kind) column.values.now i))) 0 column.offset column.length e) refl

pub same_contents : (column : Column) (rows : Rows) → AreRowsOf column rows → contents_of_rows rows ≡ contents_of_column column
same_contents column (Integers rows) h = ap (integer_contents rows.kind) h.1 ∙ integers_start rows.kind column ∙ ap (λ k. contents_at k column) (sym h.0)
same_contents column (Booleans rows) h = ap boolean_contents h.1 ∙ booleans_start column ∙ ap (λ k. contents_at k column) (sym h.0)
same_contents column (Strings rows) h = ap (text_contents rows.width) h.1 ∙ texts_start rows.width column ∙ sym (text_at rows.width column) ∙ ap (λ k. contents_at k column) (sym h.0)
same_contents column (Bytes rows) h = ap (byte_contents rows.width) h.1 ∙ bytes_start rows.width column ∙ sym (bytes_at rows.width column) ∙ ap (λ k. contents_at k column) (sym h.0)
same_contents column (Nulls count) h = ap (λ n. replicate n null) h.1 ∙ ap (λ k. contents_at k column) (sym h.0)
same_contents column (Values rows) h = ap (value_contents rows.format) h.1 ∙ values_start rows.format column ∙ ap (λ k. contents_at k column) (sym h.0)

text_type : (width : OffsetWidth) (rows : Rows) → type_at (Some (string_kind width)) ≡ type_at (Some (string_kind Bits32))
text_type Bits32 rows = refl
text_type Bits64 rows = refl

byte_type : (width : OffsetWidth) (rows : Rows) → type_at (Some (byte_kind width)) ≡ type_at (Some (byte_kind Bits32))
byte_type Bits32 rows = refl
byte_type Bits64 rows = refl

pub same_type : (column : Column) (rows : Rows) → AreRowsOf column rows → type_of_rows rows ≡ type_of_column column
same_type column (Integers rows) h = ap type_at (sym h.0)
same_type column (Booleans rows) h = ap type_at (sym h.0)
same_type column (Strings rows) h = sym (text_type rows.width (Strings rows)) ∙ ap type_at (sym h.0)
same_type column (Bytes rows) h = sym (byte_type rows.width (Bytes rows)) ∙ ap type_at (sym h.0)
same_type column (Nulls count) h = ap type_at (sym h.0)
same_type column (Values rows) h = ap type_at (sym h.0)

texts_in : (width : OffsetWidth) (column : Column) → AreTextRows width column column.length → All (λ cell. IfSome cell (λ bytes. IsUtf8 bytes)) (byte_cells width column)
texts_in width column h =
    let value : ℕ → List ℕ = bytes_between column.values.now (offset_in width column) in
    all_cells (λ cell. IfSome cell (λ bytes. IsUtf8 bytes)) (cell_at column.validity.now value) column.offset column.length
    (λ k l. of_value (λ bytes. IsUtf8 bytes) (is_valid column.validity.now (column.offset + k)) (value (column.offset + k)) (h k l))

-- the values of a logical type
values_in : (format : Format) (column : Column) → AreValuesBefore format column column.length → All (λ cell. IfSome cell (IsValueOf format)) (logical_cells format column)
values_in format column h k d l = by_cell (get_or (logical_cells format column) k d) refl
  where
    within : k < column.length
    within = omega (arith, l, length-map-range_with_len (cell_at column.validity.now (λ i. number_of (items_of format) (item_at (width_of_item (items_of format)) column.values.now i))) column.offset column.length)

    by_cell : (cell : Option ℤ) → get_or (logical_cells format column) k d ≡ cell → IfSome cell (IsValueOf format)
    by_cell None e = tt
    by_cell (Some z) e = h k within z (slice_get-get_or (logical_cells format column) k d l ∙ ap Some e)

pub texts_of : (column : Column) (rows : Rows) → AreRowsOf column rows → HasTexts rows
texts_of column (Integers rows) h = tt
texts_of column (Booleans rows) h = tt
texts_of column (Strings rows) h = subst (λ c. All (λ cell. IfSome cell (λ bytes. IsUtf8 bytes)) (byte_cells rows.width c)) (sym h.1) (texts_in rows.width (with_start column) h.2)
texts_of column (Bytes rows) h = tt
texts_of column (Nulls count) h = tt
texts_of column (Values rows) h = (
  h.2,
  subst (λ c. All (λ cell. IfSome cell (IsValueOf rows.format)) (logical_cells rows.format c)) (sym h.1) (values_in rows.format (with_start column) h.3),
)
