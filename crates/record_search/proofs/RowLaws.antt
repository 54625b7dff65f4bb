-- The row that is read of a record is the one that its definition computes.
use Rattle.std.proofs.Common.{◌≡◌, ◌↔◌, ◌<◌, ℕ, ℤ, zero, suc, List, [], ◌∷◌, Bool, true, false, if◌then◌else◌, Option, None, Some, Result, Ok, Err, MatchBool, refl, sym, ap, ◌∙◌, subst, length, map, arith, get_or, nat_lt}
use Rattle.std.specs.List.{filter_map, list_all}
use Rattle.std.specs.Option.{option_map}
use Rattle.std.specs.Char.{digit_value, is_digit}
use Rattle.std.specs.Str.{is_utf8}
use Rattle.std.specs.Str.Parse.{AllDigits, IsNumeral, signed_digits_value, without_leading_sign}
use Rattle.std.proofs.lemmas.Bool.{and_from, and_parts, ltb-true, lt-ltb}
use Rattle.std.proofs.lemmas.Str.{IsUtf8-from_is_utf8, is_utf8-from_IsUtf8}
use Rattle.hex.specs.Hex.{decode_of}
use Rattle.hex.specs.declared.error.FromHexError.{FromHexError}
use Rattle.csv_records.specs.Rows.{Field, rows_of}
use Rattle.logical_types.specs.Shapes.{shape_of, storage_in}
use Rattle.logical_types.specs.Words.{Writes}
use Rattle.logical_types.specs.declared.logical.LogicalType.{LogicalType}
use Rattle.record_rows.specs.Cells.{HasNoCell, Means, column_type, stored_content}
use Rattle.record_rows.specs.Readings.{Reading, is_null_field}
use Rattle.record_rows.specs.Rows.{AreCells, IsRow, IsTaken, fitted}
use Rattle.record_rows.specs.Words.{IsIntegerWord}
use Rattle.record_rows.specs.declared.schema.ColumnType.{ColumnType}
use Rattle.record_rows.specs.declared.schema.Kind.{Kind}
use Rattle.record_rows.specs.declared.schema.Kind.TheVariants as kinds
use Rattle.vortex_dtype.specs.TypeTree.{TypeTree}
use Rattle.vortex_dtype.specs.declared.nullability.Nullability.{Nullability}
use Rattle.vortex_dtype.specs.declared.nullability.Nullability.TheVariants.{NonNullable, Nullable}
use Rattle.vortex_dtype.specs.declared.ptype.PType.{PType}
use Rattle.vortex_filter.specs.Formula.{cell_at}
use Rattle.vortex_pvalue.specs.Numbers.{in_range}
use Rattle.vortex_pvalue.specs.RangeLaws.{in_range_back, in_range_true}
use Rattle.vortex_cells.specs.Cells.{Cell, cell_of}
use Rattle.vortex_value.specs.Values.Content.{Content, null, string, text, whole}
use Rattle.vortex_value.specs.Values.Scalars.{scalar_content, scalar_type}
use Rattle.vortex_value.specs.declared.scalars.Scalar.{Scalar}
use Rattle.record_search.specs.Contents.{bytes_content, cell_before, cells_of, field_content, is_integer_word, is_numeral, only_row, or_null, row_of, word_content}
use Rattle.record_search.specs.Searched.{AreCellsOf, AreRowsOf, strict}

-- ---- words

digits_to : (ds : List ℕ) → AllDigits 10 ds → list_all (λ c. is_digit c 10) ds ≡ true
digits_to [] h = refl
digits_to (c ∷ cs) h = and_from (is_digit c 10) _ (lt-ltb (digit_value c) 10 h.0) (digits_to cs h.1)

digits_from : (ds : List ℕ) → list_all (λ c. is_digit c 10) ds ≡ true → AllDigits 10 ds
digits_from [] h = tt
digits_from (c ∷ cs) h = let p = and_parts (is_digit c 10) _ h in (ltb-true (digit_value c) 10 p.0, digits_from cs p.1)

numeral_to : (ds : List ℕ) → IsNumeral 10 ds → is_numeral ds ≡ true
numeral_to ds h = and_from (nat_lt 0 (length ds)) _ (lt-ltb 0 (length ds) h.0) (digits_to ds h.1)

numeral_from : (ds : List ℕ) → is_numeral ds ≡ true → IsNumeral 10 ds
numeral_from ds h = let p = and_parts (nat_lt 0 (length ds)) _ h in (ltb-true 0 (length ds) p.0, digits_from ds p.1)

integer_to : (k : PType) (word : List ℕ) (z : ℤ) → IsIntegerWord k word z → is_integer_word k word ≡ true
integer_to k word z h =
    and_from (is_utf8 word) _ (is_utf8-from_IsUtf8 word h.text)
    (and_from (is_numeral (without_leading_sign word)) _ (numeral_to (without_leading_sign word) h.digits) (ap (in_range k) h.value ∙ in_range_true k z h.fits))

integer_from : (k : PType) (word : List ℕ) → is_integer_word k word ≡ true → IsIntegerWord k word (signed_digits_value 10 word)
integer_from k word h =
    let p = and_parts (is_utf8 word) _ h in
    let q = and_parts (is_numeral (without_leading_sign word)) _ p.1 in
    record { text = IsUtf8-from_is_utf8 word p.0; digits = numeral_from (without_leading_sign word) q.0; value = refl; fits = in_range_back k (signed_digits_value 10 word) q.1 }

chosen_content : (b : Bool) (c d : Content) → (if b then Some c else None) ≡ Some d → (b ≡ true) × (c ≡ d)
chosen_content true c d e = (refl, cc)
chosen_content false c d e = absurd cc

bytes_from : (r : Result (List ℕ) FromHexError) (c : Content) → bytes_content r ≡ Some c → (bytes : List ℕ) × (r ≡ Ok bytes) × (c ≡ string bytes)
bytes_from (Ok bytes) c e = (bytes, refl, cc)
bytes_from (Err x) c e = absurd cc

-- what the law of words says
abbrev pub WordsSay : Type 0
WordsSay = (l : LogicalType) (word : List ℕ) (z : ℤ) → (storage_in (shape_of l) word ≡ Some z) ↔ Writes l word z

-- a word that means a content is it
word_to : WordsSay → (kind : Kind) (word : List ℕ) (c : Content) → Means kind word c → word_content kind word ≡ Some c
word_to say (kinds.Integer k) word c h = rw (integer_to k word h.0 h.1) (ap (λ (z : ℤ). Some (whole z)) h.1.value ∙ ap (λ (d : Content). Some d) (sym h.2))
word_to say kinds.Utf8 word c h = rw (is_utf8-from_IsUtf8 word h.0) (ap (λ (d : Content). Some d) (sym h.1))
word_to say kinds.Binary word c h = ap bytes_content h.1 ∙ ap (λ (d : Content). Some d) (sym h.2)
word_to say kinds.Bytes word c h = ap (λ (d : Content). Some d) (sym h)
word_to say (kinds.Logical l) word c h = ap (option_map (stored_content l)) ((say l word h.0).1 h.1) ∙ ap (λ (d : Content). Some d) (sym h.2)

stored_from : (l : LogicalType) (o : Option ℤ) (c : Content) → option_map (stored_content l) o ≡ Some c → (z : ℤ) × (o ≡ Some z) × (c ≡ stored_content l z)
stored_from l (Some z) c e = (z, refl, cc)
stored_from l None c e = absurd cc

word_from : WordsSay → (kind : Kind) (word : List ℕ) (c : Content) → word_content kind word ≡ Some c → Means kind word c
word_from say (kinds.Integer k) word c e =
    let p = chosen_content (is_integer_word k word) (whole (signed_digits_value 10 word)) c e in
    (signed_digits_value 10 word, integer_from k word p.0, sym p.1)
word_from say kinds.Utf8 word c e =
    let p = chosen_content (is_utf8 word) (text word) c e in
    (IsUtf8-from_is_utf8 word p.0, sym p.1)
word_from say kinds.Binary word c e = bytes_from (decode_of word) c e
word_from say kinds.Bytes word c e = cc
word_from say (kinds.Logical l) word c e = let p = stored_from l (storage_in (shape_of l) word) c e in (p.0, (say l word p.0).0 p.1, p.2)

-- ---- fields

pub cell_field : WordsSay → (l : Reading) (column : ColumnType) (f : Field) (c : Content) (b : Bool) → is_null_field l column.nullability f ≡ b → MatchBool b (c ≡ null) (Means column.kind f.text c) → field_content l column f ≡ Some c
cell_field say l column f c true e h = rw e (ap (λ (d : Content). Some d) (sym h))
cell_field say l column f c false e h = rw (e, word_to say column.kind f.text c h) refl

pub none_word : WordsSay → (l : Reading) (column : ColumnType) (f : Field) (o : Option Content) → word_content column.kind f.text ≡ o → is_null_field l column.nullability f ≡ false → HasNoCell l column f → o ≡ None
none_word say l column f None e other none = refl
none_word say l column f (Some c) e other none = absurd (none c (subst (λ (b : Bool). MatchBool b (c ≡ null) (Means column.kind f.text c)) (sym other) (word_from say column.kind f.text c e)))

-- the column does not take the field
pub no_content : WordsSay → (l : Reading) (column : ColumnType) (f : Field) (b : Bool) → is_null_field l column.nullability f ≡ b → HasNoCell l column f → field_content (strict l) column f ≡ None
no_content say l column f true e none = absurd (none null (subst (λ (b : Bool). MatchBool b (null ≡ null) (Means column.kind f.text null)) (sym e) refl))
no_content say l column f false e none = rw (e, none_word say l column f (word_content column.kind f.text) refl e none) refl

lenient_null : (l : Bool) (n : Nullability) → l ≡ true → n ≡ Nullable → or_null l n None ≡ Some null
lenient_null true Nullable e h = refl
lenient_null true NonNullable e h = absurd cc
lenient_null false n e h = absurd cc

pub null_field : WordsSay → (l : Reading) (column : ColumnType) (f : Field) (b : Bool) → is_null_field l column.nullability f ≡ b → l.is_lenient ≡ true → column.nullability ≡ Nullable → HasNoCell l column f → field_content l column f ≡ Some null
null_field say l column f true e asked takes none = rw e refl
null_field say l column f false e asked takes none = rw (e, none_word say l column f (word_content column.kind f.text) refl e none) (lenient_null l.is_lenient column.nullability asked takes)

-- what is taken of a field is what it is in its column
pub record IsFieldOf (l : Reading) (column : ColumnType) (f : Field) (x : Scalar) : Type 0 where
  pub content : field_content l column f ≡ Some (scalar_content x)
  pub typed : scalar_type x ≡ column_type column

pub taken_field : WordsSay → (l : Reading) (column : ColumnType) (f : Field) (x : Scalar) (b : Bool) → IsTaken l column f x b → IsFieldOf l column f x
taken_field say l column f x false h = record { content = cell_field say l column f (scalar_content x) (is_null_field l column.nullability f) refl h.content; typed = h.typed }
taken_field say l column f x true h = record {
  content = null_field say l column f (is_null_field l column.nullability f) refl h.asked h.takes h.none ∙ ap (λ (d : Content). Some d) (sym h.content);
  typed = h.typed;
}

-- ---- rows

pub cell_made : (column : ColumnType) (x : Scalar) → scalar_type x ≡ column_type column → cell_of x ≡ record { typed = column_type column; content = scalar_content x }
cell_made column x e = ap (λ (t : TypeTree). let c : Cell = record { typed = t; content = scalar_content x } in c) e

cells_are : WordsSay → (l : Reading) (cs : List ColumnType) (fs : List Field) (xs : List Scalar) (bs : List Bool) → AreCells l cs fs xs bs → cells_of l cs fs ≡ Some (map cell_of xs)
cells_are say l [] [] [] [] h = refl
cells_are say l [] [] [] (b ∷ bs) h = absurd h
cells_are say l [] [] (x ∷ xs) bs h = absurd h
cells_are say l [] (f ∷ fs) xs bs h = absurd h
cells_are say l (c ∷ cs) [] xs bs h = absurd h
cells_are say l (c ∷ cs) (f ∷ fs) [] bs h = absurd h
cells_are say l (c ∷ cs) (f ∷ fs) (x ∷ xs) [] h = absurd h
cells_are say l (c ∷ cs) (f ∷ fs) (x ∷ xs) (b ∷ bs) h =
    let one = taken_field say l c f x b h.0 in
    rw (one.content, cells_are say l cs fs xs bs h.1) (ap (λ (y : Cell). Some (y ∷ map cell_of xs)) (sym (cell_made c x one.typed)))

pub row_is : WordsSay → (d : ℕ) (l : Reading) (columns : List ColumnType) (line : List ℕ) (row : List Scalar) (n : ℕ) → IsRow d l columns line row n → row_of d l columns line ≡ Some (map cell_of row)
row_is say d l columns line row n h = ap (only_row l columns) h.is ∙ cells_are say l columns (fitted l.is_lenient columns h.fields) row h.flags h.cells

pub no_row : (d : ℕ) (l : Reading) (columns : List ColumnType) (line : List ℕ) → rows_of d line ≡ [] → row_of d l columns line ≡ None
no_row d l columns line h = ap (only_row l columns) h

-- ---- types of cells

before_is : (column : ColumnType) (o : Option Content) (r : Option (List Cell)) (xs : List Cell) → cell_before column o r ≡ Some xs → (c : Content) × (cells : List Cell) × (r ≡ Some cells) × (xs ≡ record { typed = column_type column; content = c } ∷ cells)
before_is column (Some c) (Some cells) xs e = (c, cells, refl, cc)
before_is column (Some c) None xs e = absurd cc
before_is column None r xs e = absurd cc

cells_typed : (l : Reading) (cs : List ColumnType) (fs : List Field) (xs : List Cell) → cells_of l cs fs ≡ Some xs → AreCellsOf cs xs
cells_typed l [] [] [] e = tt
cells_typed l [] [] (x ∷ xs) e = absurd cc
cells_typed l [] (f ∷ fs) xs e = absurd cc
cells_typed l (c ∷ cs) [] xs e = absurd cc
cells_typed l (c ∷ cs) (f ∷ fs) xs e =
    let p = before_is c (field_content l c f) (cells_of l cs fs) xs e in
    subst (AreCellsOf (c ∷ cs)) (sym p.3) (refl, cells_typed l cs fs p.1 p.2)

only_typed : (l : Reading) (cs : List ColumnType) (rows : List (List Field)) (xs : List Cell) → only_row l cs rows ≡ Some xs → AreCellsOf cs xs
only_typed l cs [] xs e = absurd cc
only_typed l cs (fields ∷ []) xs e = cells_typed l cs (fitted l.is_lenient cs fields) xs e
only_typed l cs (fields ∷ more ∷ rest) xs e = absurd cc

rows_typed : (cs : List ColumnType) (h : List ℕ → Option (List Cell)) (records : List (List ℕ)) → ((line : List ℕ) (xs : List Cell) → h line ≡ Some xs → AreCellsOf cs xs) → AreRowsOf cs (filter_map h records)
rows_typed cs h [] each = tt
rows_typed cs h (line ∷ lines) each = by_row (rows_typed cs h lines each) (h line) refl
  where
    by_row : AreRowsOf cs (filter_map h lines) → (o : Option (List Cell)) → h line ≡ o → AreRowsOf cs (filter_map h (line ∷ lines))
    by_row rest None e = rw e rest
    by_row rest (Some xs) e = rw e (each line xs e, rest)

-- each row has a cell of each column's type
pub rows_are_typed : (d : ℕ) (l : Reading) (columns : List ColumnType) (records : List (List ℕ)) → AreRowsOf columns (filter_map (row_of d l columns) records)
rows_are_typed d l columns records = rows_typed columns (row_of d l columns) records (λ line xs e. only_typed l columns (rows_of d line) xs e)

-- the cell in a column is of its type
pub cell_typed : (cs : List ColumnType) (row : List Cell) (k : ℕ) (d : ColumnType) → AreCellsOf cs row → k < length cs → (cell_at row k).typed ≡ column_type (get_or cs k d)
cell_typed [] row k d h below = absurd (omega arith)
cell_typed (c ∷ cs) [] k d h below = absurd h
cell_typed (c ∷ cs) (x ∷ xs) zero d h below = h.0
cell_typed (c ∷ cs) (x ∷ xs) (suc k) d h below = cell_typed cs xs k d h.1 (omega arith)
