-- The column that is written of the cells of a column.
use Rattle.std.proofs.Common.{◌≡◌, ◌∙◌, ℕ, ℤ, ◌<◌, ◌≤◌, ◌⊎◌, inl, inr, List, length, map, get_or, replicate, sym, subst, ap, arith, Bool, true, false, ◌==◌, ◌||◌, if◌then◌else◌, refl, Some, None}
use Rattle.std.specs.Prelude.{slice_index}
use Rattle.std.specs.List.{All}
use Rattle.std.proofs.lemmas.Bool.Decides.{nat_tests}
use Rattle.std.proofs.lemmas.List.{ext_get_or, get_or-map, get_or-replicate, length-map, length-replicate}
use Rattle.std.proofs.lemmas.List.FromFn.{get_or-map-range_with_len, length-map-range_with_len}
use Rattle.arrow_columns.specs.Bitmaps.{bit_of, bitmap_length, is_valid}
use Rattle.arrow_columns.specs.Cells.{cell_at, cells_from}
use Rattle.arrow_columns.specs.Integers.{integer_of, item_at, number_of, width_of, width_of_item}
use Rattle.arrow_columns.specs.Offsets.{bytes_between}
use Rattle.arrow_columns.specs.declared.kinds.IntegerKind.{IntegerKind}
use Rattle.arrow_columns.specs.declared.kinds.Kind.{Kind}
use Rattle.arrow_columns.specs.declared.kinds.Kind.TheVariants.{Binary, Boolean, Integer, LargeBinary, LargeUtf8, Logical, Null, Utf8}
use Rattle.arrow_columns.specs.Formats.{items_of}
use Rattle.arrow_columns.specs.declared.formats.Format.{Format}
use Rattle.column_cells.specs.Contents.{content_or_null, stored_content}
use Rattle.column_cells.specs.Types.{ptype_of_kind, type_of_kind}
use Rattle.vortex_dtype.specs.TypeTree.{TypeTree, binary_type, bool_type, integer_type, null_type, utf8_type}
use Rattle.vortex_dtype.specs.declared.nullability.Nullability.TheVariants.{Nullable}
use Rattle.vortex_dtype.specs.declared.ptype.PType.{PType}
use Rattle.vortex_value.specs.Validity.{Valid}
use Rattle.vortex_value.specs.Values.Content.{Content, content, null, sequence, string, tagged, text, truth, typed as typed_child, whole}
use Rattle.vortex_value.specs.Values.RawTree.{RawTree, absent, raw_bool, raw_bytes, raw_integer, raw_text, raw_tuple, raw_union, raw_variant}
use Rattle.column_keys.specs.Layout.{AreBits, AreIntegers, AreNumbers, AreStrings, IsColumnOf, IsNumberIn, bytes_in, is_present, number_in, truth_in}
use Rattle.column_keys.proofs.RowLaws.{content-there}

-- ---- what cells of a type are

fits-null : (v : RawTree) → Valid null_type v → content v ≡ null
fits-null absent h = refl
fits-null (raw_integer l z) h = absurd h
fits-null (raw_bool b) h = absurd h
fits-null (raw_text bs) h = absurd h
fits-null (raw_bytes bs) h = absurd h
fits-null (raw_tuple vs) h = absurd h
fits-null (raw_union i v) h = absurd h
fits-null (raw_variant t v) h = absurd h

fits-integer : (p : PType) (v : RawTree) → Valid (integer_type p Nullable) v → is_present (content v) ≡ true → whole (number_in (content v)) ≡ content v
fits-integer p absent h e = cc
fits-integer p (raw_integer l z) h e = refl
fits-integer p (raw_bool b) h e = absurd h
fits-integer p (raw_text bs) h e = absurd h
fits-integer p (raw_bytes bs) h e = absurd h
fits-integer p (raw_tuple vs) h e = absurd h
fits-integer p (raw_union i v) h e = absurd h
fits-integer p (raw_variant t v) h e = absurd h

fits-truth : (v : RawTree) → Valid (bool_type Nullable) v → is_present (content v) ≡ true → truth (truth_in (content v)) ≡ content v
fits-truth absent h e = cc
fits-truth (raw_bool b) h e = refl
fits-truth (raw_integer l z) h e = absurd h
fits-truth (raw_text bs) h e = absurd h
fits-truth (raw_bytes bs) h e = absurd h
fits-truth (raw_tuple vs) h e = absurd h
fits-truth (raw_union i v) h e = absurd h
fits-truth (raw_variant t v) h e = absurd h

fits-text : (v : RawTree) → Valid (utf8_type Nullable) v → is_present (content v) ≡ true → text (bytes_in (content v)) ≡ content v
fits-text absent h e = cc
fits-text (raw_text bs) h e = refl
fits-text (raw_integer l z) h e = absurd h
fits-text (raw_bool b) h e = absurd h
fits-text (raw_bytes bs) h e = absurd h
fits-text (raw_tuple vs) h e = absurd h
fits-text (raw_union i v) h e = absurd h
fits-text (raw_variant t v) h e = absurd h

fits-bytes : (v : RawTree) → Valid (binary_type Nullable) v → is_present (content v) ≡ true → string (bytes_in (content v)) ≡ content v
fits-bytes absent h e = cc
fits-bytes (raw_bytes bs) h e = refl
fits-bytes (raw_integer l z) h e = absurd h
fits-bytes (raw_bool b) h e = absurd h
fits-bytes (raw_text bs) h e = absurd h
fits-bytes (raw_tuple vs) h e = absurd h
fits-bytes (raw_union i v) h e = absurd h
fits-bytes (raw_variant t v) h e = absurd h

-- the content of a row is that of its value, which is of the type
there : (raws : List RawTree) (i : ℕ) → get_or (map content raws) i null ≡ content (get_or raws i absent)
there raws i = sym (content-there raws i)

valid-there : (t : TypeTree) (raws : List RawTree) (i : ℕ) → All (Valid t) raws → i < length (map content raws) → Valid t (get_or raws i absent)
valid-there t raws i all l = all i absent (omega (arith, l, length-map raws content))

-- ---- the contents in buffers are the cells

not-present : (c : Content) → is_present c ≡ false → c ≡ null
not-present null e = refl
not-present (truth b) e = cc
not-present (whole z) e = cc
not-present (text bs) e = cc
not-present (string bs) e = cc
not-present (sequence cs) e = cc
not-present (tagged id c) e = cc
not-present (typed_child t c) e = cc

one-content : {X : Type 0} (of_value : X → Content) (x : X) (b : Bool) (c : Content) → b ≡ is_present c → (is_present c ≡ true → of_value x ≡ c) → content_or_null of_value (if b then Some x else None) ≡ c
one-content of_value x true c e h = h (sym e)
one-content of_value x false c e h = sym (not-present c (sym e))

valid-bit : (validity : List ℕ) (i : ℕ) → 0 < length validity → is_valid validity i ≡ bit_of validity i
valid-bit validity i l = let some : (length validity == 0) ≡ false = grind (arith, nat_tests, l) in ap (λ b. b || bit_of validity i) some

pub contents-are : {X : Type 0} (of_value : X → Content) (value : ℕ → X) (validity : List ℕ) (cells : List Content) → bitmap_length (length cells) ≤ length validity → AreBits is_present cells validity
    → ((i : ℕ) → i < length cells → is_present (get_or cells i null) ≡ true → of_value (value i) ≡ get_or cells i null) → map (content_or_null of_value) (cells_from validity value 0 (length cells)) ≡ cells
contents-are of_value value validity cells buffer bits values =
    ext_get_or null (map (content_or_null of_value) (cells_from validity value 0 (length cells))) cells count (λ i l. at i (omega (arith, l, count)))
  where
    count : length (map (content_or_null of_value) (cells_from validity value 0 (length cells))) ≡ length cells
    count = length-map (cells_from validity value 0 (length cells)) (content_or_null of_value) ∙ length-map-range_with_len (cell_at validity value) 0 (length cells)

    at : (i : ℕ) → i < length cells → get_or (map (content_or_null of_value) (cells_from validity value 0 (length cells))) i null ≡ get_or cells i null
    at i l =
        let some : 0 < length validity = omega (arith, l, buffer) in
        let valid : is_valid validity i ≡ is_present (get_or cells i null) = valid-bit validity i some ∙ bits.rows i l in
        let within : i < length (cells_from validity value 0 (length cells)) = omega (arith, l, length-map-range_with_len (cell_at validity value) 0 (length cells)) in
        get_or-map (content_or_null of_value) (cells_from validity value 0 (length cells)) i None null within
        ∙ ap (content_or_null of_value) (get_or-map-range_with_len (cell_at validity value) 0 (length cells) i i None l (omega arith))
        ∙ one-content of_value (value i) (is_valid validity i) (get_or cells i null) valid (values i l)

pub integer-column : (kind : IntegerKind) (raws : List RawTree) (validity values offsets : List ℕ) → All (Valid (type_of_kind (Integer kind))) raws → bitmap_length (length (map content raws)) ≤ length validity → AreBits is_present (map content raws) validity
    → AreIntegers kind (map content raws) values → IsColumnOf (Integer kind) (map content raws) validity values offsets
integer-column kind raws validity values offsets typed buffer bits all = record {
  contents = contents-are whole (λ i. integer_of kind (item_at (width_of kind) values i)) validity (map content raws) buffer bits (λ i l present. value i l present);
  present = bits;
  written = all;
}
  where
    value : (i : ℕ) → i < length (map content raws) → is_present (get_or (map content raws) i null) ≡ true → whole (integer_of kind (item_at (width_of kind) values i)) ≡ get_or (map content raws) i null
    value i l present =
        let is = there raws i in
        let fits = fits-integer (ptype_of_kind kind) (get_or raws i absent) (valid-there (type_of_kind (Integer kind)) raws i typed l) (ap is_present (sym is) ∙ present) in
        ap whole (all i l ∙ ap number_in is) ∙ fits ∙ sym is

pub boolean-column : (raws : List RawTree) (validity values offsets : List ℕ) → All (Valid (type_of_kind Boolean)) raws → bitmap_length (length (map content raws)) ≤ length validity → AreBits is_present (map content raws) validity
    → AreBits truth_in (map content raws) values → IsColumnOf Boolean (map content raws) validity values offsets
boolean-column raws validity values offsets typed buffer bits all = record {
  contents = contents-are truth (bit_of values) validity (map content raws) buffer bits (λ i l present. value i l present);
  present = bits;
  written = all;
}
  where
    value : (i : ℕ) → i < length (map content raws) → is_present (get_or (map content raws) i null) ≡ true → truth (bit_of values i) ≡ get_or (map content raws) i null
    value i l present =
        let is = there raws i in
        let fits = fits-truth (get_or raws i absent) (valid-there (type_of_kind Boolean) raws i typed l) (ap is_present (sym is) ∙ present) in
        ap truth (all.rows i l ∙ ap truth_in is) ∙ fits ∙ sym is

-- ---- values of a logical type

number-present : (format : Format) (c : Content) (z : ℤ) → is_present c ≡ true → IsNumberIn format c z → stored_content format z ≡ c
number-present format null z e h = cc
number-present format (truth b) z e h = h
number-present format (whole y) z e h = h
number-present format (text bs) z e h = h
number-present format (string bs) z e h = h
number-present format (sequence cs) z e h = h
number-present format (tagged id c) z e h = h
number-present format (typed_child t c) z e h = h

pub value-column : (format : Format) (cells : List Content) (validity values offsets : List ℕ) → bitmap_length (length cells) ≤ length validity → AreBits is_present cells validity → AreNumbers format cells values
    → IsColumnOf (Logical format) cells validity values offsets
value-column format cells validity values offsets buffer bits all = record {
  contents = contents-are (stored_content format) (λ i. number_of (items_of format) (item_at (width_of_item (items_of format)) values i)) validity cells buffer bits
      (λ i l present. number-present format (get_or cells i null) _ present (all i l).number);
  present = bits;
  written = all;
}

text-contents : (raws : List RawTree) (validity values offsets : List ℕ) → All (Valid (utf8_type Nullable)) raws → bitmap_length (length (map content raws)) ≤ length validity → AreBits is_present (map content raws) validity → AreStrings (map content raws) values offsets
    → map (content_or_null text) (cells_from validity (bytes_between values (slice_index offsets)) 0 (length (map content raws))) ≡ map content raws
text-contents raws validity values offsets typed buffer bits all = contents-are text (bytes_between values (slice_index offsets)) validity (map content raws) buffer bits (λ i l present. value i l present)
  where
    value : (i : ℕ) → i < length (map content raws) → is_present (get_or (map content raws) i null) ≡ true → text (bytes_between values (slice_index offsets) i) ≡ get_or (map content raws) i null
    value i l present =
        let is = there raws i in
        let fits = fits-text (get_or raws i absent) (valid-there (utf8_type Nullable) raws i typed l) (ap is_present (sym is) ∙ present) in
        ap text (all.strings i l ∙ ap bytes_in is) ∙ fits ∙ sym is

byte-contents : (raws : List RawTree) (validity values offsets : List ℕ) → All (Valid (binary_type Nullable)) raws → bitmap_length (length (map content raws)) ≤ length validity → AreBits is_present (map content raws) validity → AreStrings (map content raws) values offsets
    → map (content_or_null string) (cells_from validity (bytes_between values (slice_index offsets)) 0 (length (map content raws))) ≡ map content raws
byte-contents raws validity values offsets typed buffer bits all = contents-are string (bytes_between values (slice_index offsets)) validity (map content raws) buffer bits (λ i l present. value i l present)
  where
    value : (i : ℕ) → i < length (map content raws) → is_present (get_or (map content raws) i null) ≡ true → string (bytes_between values (slice_index offsets) i) ≡ get_or (map content raws) i null
    value i l present =
        let is = there raws i in
        let fits = fits-bytes (get_or raws i absent) (valid-there (binary_type Nullable) raws i typed l) (ap is_present (sym is) ∙ present) in
        ap string (all.strings i l ∙ ap bytes_in is) ∙ fits ∙ sym is

-- the kinds with offsets
abbrev pub HasStrings : Kind → Type 0
HasStrings Utf8 = Unit {0}
HasStrings LargeUtf8 = Unit {0}
HasStrings Binary = Unit {0}
HasStrings LargeBinary = Unit {0}
HasStrings _ = ⊥

pub string-column : (kind : Kind) (raws : List RawTree) (validity values offsets : List ℕ) → HasStrings kind → All (Valid (type_of_kind kind)) raws → bitmap_length (length (map content raws)) ≤ length validity → AreBits is_present (map content raws) validity
    → AreStrings (map content raws) values offsets → IsColumnOf kind (map content raws) validity values offsets
string-column Utf8 raws validity values offsets of typed buffer bits all = record { contents = text-contents raws validity values offsets typed buffer bits all; present = bits; written = all }
string-column LargeUtf8 raws validity values offsets of typed buffer bits all = record { contents = text-contents raws validity values offsets typed buffer bits all; present = bits; written = all }
string-column Binary raws validity values offsets of typed buffer bits all = record { contents = byte-contents raws validity values offsets typed buffer bits all; present = bits; written = all }
string-column LargeBinary raws validity values offsets of typed buffer bits all = record { contents = byte-contents raws validity values offsets typed buffer bits all; present = bits; written = all }
string-column (Integer kind) raws validity values offsets of typed buffer bits all = absurd of
string-column Boolean raws validity values offsets of typed buffer bits all = absurd of
string-column Null raws validity values offsets of typed buffer bits all = absurd of
string-column (Logical format) raws validity values offsets of typed buffer bits all = absurd of

pub null-column : (raws : List RawTree) (validity values offsets : List ℕ) → All (Valid null_type) raws → AreBits is_present (map content raws) validity → IsColumnOf Null (map content raws) validity values offsets
null-column raws validity values offsets typed bits = record {
  contents = ext_get_or null (replicate count null) (map content raws) (length-replicate count null) (λ i l. let within : i < count = omega (arith, l, length-replicate count null) in get_or-replicate count i null null within ∙ sym (none i within));
  present = bits;
  written = tt;
}
  where
    count : ℕ
    count = length (map content raws)

    none : (i : ℕ) → i < length (map content raws) → get_or (map content raws) i null ≡ null
    none i l = there raws i ∙ fits-null (get_or raws i absent) (valid-there null_type raws i typed l)

pub strings-of : (kind : Kind) → (kind ≡ Utf8) ⊎ ((kind ≡ LargeUtf8) ⊎ ((kind ≡ Binary) ⊎ (kind ≡ LargeBinary))) → HasStrings kind
strings-of kind (inl e) = subst HasStrings (sym e) tt
strings-of kind (inr (inl e)) = subst HasStrings (sym e) tt
strings-of kind (inr (inr (inl e))) = subst HasStrings (sym e) tt
strings-of kind (inr (inr (inr e))) = subst HasStrings (sym e) tt
