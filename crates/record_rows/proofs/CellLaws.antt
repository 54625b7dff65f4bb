-- Cells of words are cells of fields.
use Rattle.std.proofs.Common.{◌≡◌, ℕ, ℤ, List, Bool, true, false, Result, Ok, Err, refl, sym, ap, ◌∙◌, subst}
use Rattle.std.specs.Prelude.{IfOk, IsUtf8, MatchBool}
use Rattle.hex.specs.Hex.{decode_of}
use Rattle.csv_records.specs.Rows.{Field}
use Rattle.vortex_dtype.specs.declared.nullability.Nullability.{Nullability}
use Rattle.vortex_dtype.specs.declared.nullability.Nullability.TheVariants.{NonNullable, Nullable}
use Rattle.vortex_dtype.specs.declared.ptype.PType.{PType}
use Rattle.vortex_value.specs.Values.Content.{Content, null, string, text, whole}
use Rattle.vortex_value.specs.Values.Scalars.{IsValid, scalar_content, scalar_type}
use Rattle.vortex_value.specs.declared.scalars.Scalar.{Scalar}
use Rattle.logical_types.specs.Words.{Writes}
use Rattle.logical_types.specs.declared.logical.LogicalType.{LogicalType}
use Rattle.record_rows.specs.Cells.{HasMeaning, HasNoCell, HasNoMeaning, HasNoValue, IsBinaryCell, IsBytesCell, IsCell, IsContent, IsIntegerCell, IsLogicalCell, IsTextCell, IsValueCell, Means, column_type, stored_content, type_by}
use Rattle.record_rows.specs.Readings.{Reading, is_null_field}
use Rattle.record_rows.specs.Words.{IsIntegerWord}
use Rattle.record_rows.specs.declared.schema.ColumnType.{ColumnType}
use Rattle.record_rows.specs.declared.schema.Kind.{Kind}
use Rattle.record_rows.specs.declared.schema.Kind.TheVariants as kinds

-- ---- words of each kind

-- x is the cell of the word, or the column does not take it
abbrev Answers : ColumnType → List ℕ → Scalar → Bool → Type 0
Answers column word x b = MatchBool b (IsValueCell column word x) (HasNoValue column word)

integer_none : (p : PType) (k : Kind) (word : List ℕ) → k ≡ kinds.Integer p → ((z : ℤ) → ¬ (IsIntegerWord p word z)) → (c : Content) → ¬ (Means k word c)
integer_none p k word e none c = subst (λ (i : Kind). ¬ (Means i word c)) (sym e) (λ h. none h.0 h.1)

pub integer_value : (column : ColumnType) (p : PType) (word : List ℕ) (x : Scalar) (b : Bool) → column.kind ≡ kinds.Integer p → MatchBool b (IsIntegerCell p column.nullability word x) ((z : ℤ) → ¬ (IsIntegerWord p word z)) → Answers column word x b
integer_value column p word x false e h = integer_none p column.kind word e h
integer_value column p word x true e h = record {
  typed = h.typed ∙ ap (λ (k : Kind). type_by k column.nullability) (sym e);
  content = subst (λ (k : Kind). Means k word (scalar_content x)) (sym e) (h.number, h.is, h.content);
  valid = h.valid;
}

text_none : (k : Kind) (word : List ℕ) → k ≡ kinds.Utf8 → ¬ (IsUtf8 word) → (c : Content) → ¬ (Means k word c)
text_none k word e none c = subst (λ (i : Kind). ¬ (Means i word c)) (sym e) (λ h. none h.0)

text_one : (column : ColumnType) (word : List ℕ) (x : Scalar) (b : Bool) → column.kind ≡ kinds.Utf8 → MatchBool b (IsTextCell column.nullability word x) (¬ (IsUtf8 word)) → Answers column word x b
text_one column word x false e h = text_none column.kind word e h
text_one column word x true e h = record {
  typed = h.typed ∙ ap (λ (k : Kind). type_by k column.nullability) (sym e);
  content = subst (λ (k : Kind). Means k word (scalar_content x)) (sym e) (h.is, h.content);
  valid = h.valid;
}

pub text_value : {E : Type 0} (column : ColumnType) (word : List ℕ) (x : Scalar) (r : Result Bool E) → column.kind ≡ kinds.Utf8 → IfOk r (λ b. MatchBool b (IsTextCell column.nullability word x) (¬ (IsUtf8 word))) → IfOk r (Answers column word x)
text_value column word x (Ok b) e h = text_one column word x b e h
text_value column word x (Err _) e h = tt

binary_none : (k : Kind) (word : List ℕ) → k ≡ kinds.Binary → ((bytes : List ℕ) → ¬ (decode_of word ≡ Ok bytes)) → (c : Content) → ¬ (Means k word c)
binary_none k word e none c = subst (λ (i : Kind). ¬ (Means i word c)) (sym e) (λ h. none h.0 h.1)

binary_one : (column : ColumnType) (word : List ℕ) (x : Scalar) (b : Bool) → column.kind ≡ kinds.Binary → MatchBool b (IsBinaryCell column.nullability word x) ((bytes : List ℕ) → ¬ (decode_of word ≡ Ok bytes)) → Answers column word x b
binary_one column word x false e h = binary_none column.kind word e h
binary_one column word x true e h = record {
  typed = h.typed ∙ ap (λ (k : Kind). type_by k column.nullability) (sym e);
  content = subst (λ (k : Kind). Means k word (scalar_content x)) (sym e) (h.bytes, h.is, h.content);
  valid = h.valid;
}

pub binary_value : {E : Type 0} (column : ColumnType) (word : List ℕ) (x : Scalar) (r : Result Bool E) → column.kind ≡ kinds.Binary → IfOk r (λ b. MatchBool b (IsBinaryCell column.nullability word x) ((bytes : List ℕ) → ¬ (decode_of word ≡ Ok bytes))) → IfOk r (Answers column word x)
binary_value column word x (Ok b) e h = binary_one column word x b e h
binary_value column word x (Err _) e h = tt

pub bytes_value : (column : ColumnType) (word : List ℕ) (x : Scalar) → column.kind ≡ kinds.Bytes → IsBytesCell column.nullability word x → IsValueCell column word x
bytes_value column word x e h = record {
  typed = h.typed ∙ ap (λ (k : Kind). type_by k column.nullability) (sym e);
  content = subst (λ (k : Kind). Means k word (scalar_content x)) (sym e) h.content;
  valid = h.valid;
}

logical_none : (k : Kind) (l : LogicalType) (word : List ℕ) → k ≡ kinds.Logical l → ((z : ℤ) → ¬ (Writes l word z)) → (c : Content) → ¬ (Means k word c)
logical_none k l word e none c = subst (λ (i : Kind). ¬ (Means i word c)) (sym e) (λ h. none h.0 h.1)

logical_one : (column : ColumnType) (l : LogicalType) (word : List ℕ) (x : Scalar) (b : Bool) → column.kind ≡ kinds.Logical l → MatchBool b (IsLogicalCell l column.nullability word x) ((z : ℤ) → ¬ (Writes l word z)) → Answers column word x b
logical_one column l word x false e h = logical_none column.kind l word e h
logical_one column l word x true e h = record {
  typed = h.typed ∙ ap (λ (k : Kind). type_by k column.nullability) (sym e);
  content = subst (λ (k : Kind). Means k word (scalar_content x)) (sym e) (h.storage, h.is, h.content);
  valid = h.valid;
}

pub logical_value : {E : Type 0} (column : ColumnType) (l : LogicalType) (word : List ℕ) (x : Scalar) (r : Result Bool E) → column.kind ≡ kinds.Logical l → IfOk r (λ b. MatchBool b (IsLogicalCell l column.nullability word x) ((z : ℤ) → ¬ (Writes l word z))) → IfOk r (Answers column word x)
logical_value column l word x (Ok b) e h = logical_one column l word x b e h
logical_value column l word x (Err _) e h = tt

-- ---- words that mean something

pub integer_meaning : (kind : Kind) (p : PType) (word : List ℕ) (b : Bool) → kind ≡ kinds.Integer p → MatchBool b ((z : ℤ) × IsIntegerWord p word z) ((z : ℤ) → ¬ (IsIntegerWord p word z)) → MatchBool b (HasMeaning kind word) (HasNoMeaning kind word)
integer_meaning kind p word true e h = (whole h.0, subst (λ (k : Kind). Means k word (whole h.0)) (sym e) (h.0, h.1, refl))
integer_meaning kind p word false e h = integer_none p kind word e h

pub text_meaning : (kind : Kind) (word : List ℕ) (b : Bool) → kind ≡ kinds.Utf8 → MatchBool b (IsUtf8 word) (¬ (IsUtf8 word)) → MatchBool b (HasMeaning kind word) (HasNoMeaning kind word)
text_meaning kind word true e h = (text word, subst (λ (k : Kind). Means k word (text word)) (sym e) (h, refl))
text_meaning kind word false e h = text_none kind word e h

binary_meaning : (kind : Kind) (word : List ℕ) (b : Bool) → kind ≡ kinds.Binary → MatchBool b ((bytes : List ℕ) × (decode_of word ≡ Ok bytes)) ((bytes : List ℕ) → ¬ (decode_of word ≡ Ok bytes)) → MatchBool b (HasMeaning kind word) (HasNoMeaning kind word)
binary_meaning kind word true e h = (string h.0, subst (λ (k : Kind). Means k word (string h.0)) (sym e) (h.0, h.1, refl))
binary_meaning kind word false e h = binary_none kind word e h

pub binary_meanings : {E : Type 0} (kind : Kind) (word : List ℕ) (r : Result Bool E) → kind ≡ kinds.Binary → IfOk r (λ b. MatchBool b ((bytes : List ℕ) × (decode_of word ≡ Ok bytes)) ((bytes : List ℕ) → ¬ (decode_of word ≡ Ok bytes))) → IfOk r (λ b. MatchBool b (HasMeaning kind word) (HasNoMeaning kind word))
binary_meanings kind word (Ok b) e h = binary_meaning kind word b e h
binary_meanings kind word (Err x) e h = tt

pub bytes_meaning : (kind : Kind) (word : List ℕ) → kind ≡ kinds.Bytes → HasMeaning kind word
bytes_meaning kind word e = (string word, subst (λ (k : Kind). Means k word (string word)) (sym e) refl)

pub logical_meaning : (kind : Kind) (l : LogicalType) (word : List ℕ) (b : Bool) → kind ≡ kinds.Logical l → MatchBool b ((z : ℤ) × Writes l word z) ((z : ℤ) → ¬ (Writes l word z)) → MatchBool b (HasMeaning kind word) (HasNoMeaning kind word)
logical_meaning kind l word true e h = (stored_content l h.0, subst (λ (k : Kind). Means k word (stored_content l h.0)) (sym e) (h.0, h.1, refl))
logical_meaning kind l word false e h = logical_none kind l word e h

-- ---- nulls

pub null_takes : (reading : Reading) (n : Nullability) (f : Field) → is_null_field reading n f ≡ true → n ≡ Nullable
null_takes reading Nullable f h = refl
null_takes reading NonNullable f h = absurd cc

pub null_content : (reading : Reading) (column : ColumnType) (f : Field) (c : Content) → is_null_field reading column.nullability f ≡ true → c ≡ null → IsContent reading column f c
null_content reading column f c e h = rw e h

pub null_cell : (reading : Reading) (column : ColumnType) (f : Field) (x : Scalar) → is_null_field reading column.nullability f ≡ true → scalar_type x ≡ column_type column → scalar_content x ≡ null → IsValid x → IsCell reading column f x
null_cell reading column f x e typed content valid = record { typed = typed; content = null_content reading column f (scalar_content x) e content; valid = valid }

word_content : (reading : Reading) (column : ColumnType) (f : Field) (c : Content) → is_null_field reading column.nullability f ≡ false → Means column.kind f.text c → IsContent reading column f c
word_content reading column f c e h = rw e h

content_word : (reading : Reading) (column : ColumnType) (f : Field) (c : Content) → is_null_field reading column.nullability f ≡ false → IsContent reading column f c → Means column.kind f.text c
content_word reading column f c e h = subst (λ (b : Bool). MatchBool b (c ≡ null) (Means column.kind f.text c)) e h

word_cell : (reading : Reading) (column : ColumnType) (f : Field) (x : Scalar) (b : Bool) → is_null_field reading column.nullability f ≡ false → Answers column f.text x b → MatchBool b (IsCell reading column f x) (HasNoCell reading column f)
word_cell reading column f x false e h = λ c is. h c (content_word reading column f c e is)
word_cell reading column f x true e h = record { typed = h.typed; content = word_content reading column f (scalar_content x) e h.content; valid = h.valid }

pub word_cells : {E : Type 0} (reading : Reading) (column : ColumnType) (f : Field) (x : Scalar) (r : Result Bool E) → is_null_field reading column.nullability f ≡ false → IfOk r (Answers column f.text x) → IfOk r (λ b. MatchBool b (IsCell reading column f x) (HasNoCell reading column f))
word_cells reading column f x (Ok b) e h = word_cell reading column f x b e h
word_cells reading column f x (Err _) e h = tt
