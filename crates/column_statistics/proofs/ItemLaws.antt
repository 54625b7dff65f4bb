-- The raw values of columns, by the contents that their types have.
use Rattle.std.proofs.Common.{◌≡◌, ◌∙◌, ℕ, ℤ, Bool, List, [], ◌∷◌, Some, ap, length, refl, subst, sym}
use Rattle.arrow_columns.specs.declared.kinds.IntegerKind.{IntegerKind}
use Rattle.arrow_columns.specs.declared.kinds.Kind.{Kind}
use Rattle.arrow_columns.specs.declared.kinds.Kind.TheVariants.{Binary, Boolean, Integer, LargeBinary, LargeUtf8, Logical, Null, Utf8}
use Rattle.column_cells.specs.Types.{ptype_of_kind, type_of_kind}
use Rattle.vortex_dtype.specs.TypeTree.{binary_type, bool_type, integer_type, null_type, utf8_type}
use Rattle.vortex_dtype.specs.declared.nullability.Nullability.TheVariants.{Nullable}
use Rattle.vortex_dtype.specs.declared.ptype.PType.{PType}
use Rattle.vortex_pvalue.specs.Numbers.{InRange}
use Rattle.vortex_value.specs.Validity.{Valid}
use Rattle.vortex_value.specs.Values.Content.{Content, content, string, text, truth, whole}
use Rattle.vortex_value.specs.Values.RawKinds.{IsBoolValue, IsBytesValue, IsIntegerValue, IsTextValue}
use Rattle.vortex_value.specs.Values.RawOf.{value_tree}
use Rattle.vortex_value.specs.Values.RawTree.{RawTree, absent, raw_bool, raw_bytes, raw_integer, raw_text}
use Rattle.vortex_value.specs.Values.Scalars.{scalar_content}
use Rattle.vortex_value.specs.declared.scalars.Scalar.{Scalar}
use Rattle.vortex_value.specs.declared.values.ScalarValue.{ScalarValue}
use Rattle.column_items.proofs.ItemFits.{fits_item}
use Rattle.column_items.proofs.NumberSteps.{held, no_null, stored_held}
use Rattle.column_items.specs.Items.{FitsItem, bytes_of_number}
use Rattle.column_items.specs.Numbers.{HasContentOf, StoresNumber}
use Rattle.arrow_columns.specs.Formats.{items_of}
use Rattle.arrow_columns.specs.Integers.{number_of, width_of_item}
use Rattle.arrow_columns.specs.declared.formats.Format.{Format}
use Rattle.column_cells.specs.Contents.{stored_content}
use Rattle.vortex_cells.specs.Cells.{cell_of}
use Rattle.statistics_bytes.specs.Encoding.{IsCellOf}
use Rattle.column_statistics.specs.Items.{IsItemOf, truth_byte}

-- what has the content of a kind is a value of that kind
a_truth : (v : RawTree) (b : Bool) → content v ≡ truth b → IsBoolValue v
a_truth (raw_bool c) b e = tt
a_truth _ b e = cc

an_integer : (v : RawTree) (z : ℤ) → content v ≡ whole z → IsIntegerValue v
an_integer (raw_integer k x) z e = tt
an_integer _ z e = cc

a_text : (v : RawTree) (s : List ℕ) → content v ≡ text s → IsTextValue v
a_text (raw_text r) s e = tt
a_text _ s e = cc

a_string : (v : RawTree) (s : List ℕ) → content v ≡ string s → IsBytesValue v
a_string (raw_bytes r) s e = tt
a_string _ s e = cc

-- ---- a value whose content is that of one of the type

bool_value : (v : ScalarValue) (w : RawTree) → content (value_tree v) ≡ content w → Valid (bool_type Nullable) w → IsBoolValue (value_tree v)
bool_value v absent e h = absurd (no_null v e)
bool_value v (raw_bool b) e h = a_truth (value_tree v) b e
bool_value v _ e h = absurd h

integer_value : (k : PType) (v : ScalarValue) (w : RawTree) → content (value_tree v) ≡ content w → Valid (integer_type k Nullable) w → IsIntegerValue (value_tree v)
integer_value k v absent e h = absurd (no_null v e)
integer_value k v (raw_integer l z) e h = an_integer (value_tree v) z e
integer_value k v _ e h = absurd h

text_value : (v : ScalarValue) (w : RawTree) → content (value_tree v) ≡ content w → Valid (utf8_type Nullable) w → IsTextValue (value_tree v)
text_value v absent e h = absurd (no_null v e)
text_value v (raw_text s) e h = a_text (value_tree v) s e
text_value v _ e h = absurd h

bytes_value : (v : ScalarValue) (w : RawTree) → content (value_tree v) ≡ content w → Valid (binary_type Nullable) w → IsBytesValue (value_tree v)
bytes_value v absent e h = absurd (no_null v e)
bytes_value v (raw_bytes s) e h = a_string (value_tree v) s e
bytes_value v _ e h = absurd h

no_value : (v : ScalarValue) (w : RawTree) → content (value_tree v) ≡ content w → Valid null_type w → ⊥
no_value v absent e h = no_null v e
no_value v _ e h = h

-- an integer with the content of one of the type is in its range
in_range : (k : PType) (z : ℤ) (w : RawTree) → whole z ≡ content w → Valid (integer_type k Nullable) w → InRange k z
in_range k z absent e h = cc
in_range k z (raw_integer j y) e h = let q : y ≡ z = cc in subst (InRange k) q h.1
in_range k z _ e h = absurd h

-- ---- the value of a scalar that is a cell of a column of the kind

cell_at : (kind k : Kind) (x : Scalar) → kind ≡ k → IsCellOf (type_of_kind kind) (cell_of x) → IsCellOf (type_of_kind k) (cell_of x)
cell_at kind k x e h = subst (λ j. IsCellOf (type_of_kind j) (cell_of x)) e h

pub bool_held : (kind : Kind) (x : Scalar) (v : ScalarValue) → kind ≡ Boolean → Some v ≡ x.value → IsCellOf (type_of_kind kind) (cell_of x) → IsBoolValue (value_tree v)
bool_held kind x v e f h = let c = cell_at kind Boolean x e h in bool_value v c.value (held x v f ∙ c.is) c.is_value.valid

pub integer_held : (kind : Kind) (k : IntegerKind) (x : Scalar) (v : ScalarValue) → kind ≡ Integer k → Some v ≡ x.value → IsCellOf (type_of_kind kind) (cell_of x) → IsIntegerValue (value_tree v)
integer_held kind k x v e f h = let c = cell_at kind (Integer k) x e h in integer_value (ptype_of_kind k) v c.value (held x v f ∙ c.is) c.is_value.valid

pub number_held : (kind : Kind) (k : IntegerKind) (x : Scalar) (v : ScalarValue) (p : PType) (z : ℤ) → kind ≡ Integer k → Some v ≡ x.value → value_tree v ≡ raw_integer p z → IsCellOf (type_of_kind kind) (cell_of x) → InRange (ptype_of_kind k) z
number_held kind k x v p z e f g h =
    let c = cell_at kind (Integer k) x e h in
    in_range (ptype_of_kind k) z c.value (sym (ap content g) ∙ held x v f ∙ c.is) c.is_value.valid

pub utf8_held : (x : Scalar) (v : ScalarValue) → Some v ≡ x.value → IsCellOf (utf8_type Nullable) (cell_of x) → IsTextValue (value_tree v)
utf8_held x v f c = text_value v c.value (held x v f ∙ c.is) c.is_value.valid

pub binary_held : (x : Scalar) (v : ScalarValue) → Some v ≡ x.value → IsCellOf (binary_type Nullable) (cell_of x) → IsBytesValue (value_tree v)
binary_held x v f c = bytes_value v c.value (held x v f ∙ c.is) c.is_value.valid

pub text_held : (kind : Kind) (x : Scalar) (v : ScalarValue) → kind ≡ Utf8 → Some v ≡ x.value → IsCellOf (type_of_kind kind) (cell_of x) → IsTextValue (value_tree v)
text_held kind x v e f h = utf8_held x v f (cell_at kind Utf8 x e h)

pub large_text_held : (kind : Kind) (x : Scalar) (v : ScalarValue) → kind ≡ LargeUtf8 → Some v ≡ x.value → IsCellOf (type_of_kind kind) (cell_of x) → IsTextValue (value_tree v)
large_text_held kind x v e f h = utf8_held x v f (cell_at kind LargeUtf8 x e h)

pub bytes_held : (kind : Kind) (x : Scalar) (v : ScalarValue) → kind ≡ Binary → Some v ≡ x.value → IsCellOf (type_of_kind kind) (cell_of x) → IsBytesValue (value_tree v)
bytes_held kind x v e f h = binary_held x v f (cell_at kind Binary x e h)

pub large_bytes_held : (kind : Kind) (x : Scalar) (v : ScalarValue) → kind ≡ LargeBinary → Some v ≡ x.value → IsCellOf (type_of_kind kind) (cell_of x) → IsBytesValue (value_tree v)
large_bytes_held kind x v e f h = binary_held x v f (cell_at kind LargeBinary x e h)

pub none_held : (kind : Kind) (x : Scalar) (v : ScalarValue) → kind ≡ Null → Some v ≡ x.value → IsCellOf (type_of_kind kind) (cell_of x) → ⊥
none_held kind x v e f h = let c = cell_at kind Null x e h in no_value v c.value (held x v f ∙ c.is) c.is_value.valid

-- ---- the number of a value of a logical type

pub stored_in : (kind : Kind) (format : Format) (x : Scalar) (v : ScalarValue) → kind ≡ Logical format → Some v ≡ x.value → HasContentOf kind (scalar_content x) → (z : ℤ) × StoresNumber format (content (value_tree v)) z
stored_in kind format x v e f h = stored_held format x v f (subst (λ k. HasContentOf k (scalar_content x)) e h)

pub fits_stored : (format : Format) (c : Content) (z y : ℤ) → StoresNumber format c z → y ≡ z → FitsItem (items_of format) y
fits_stored format c z y h e = subst (FitsItem (items_of format)) (sym e) (fits_item format z h.sound h.value)

pub stored_item : (format : Format) (c : Content) (z y : ℤ) (bytes : List ℕ) → StoresNumber format c z → y ≡ z → length bytes ≡ width_of_item (items_of format) → number_of (items_of format) bytes ≡ y
    → bytes ≡ bytes_of_number (items_of format) y → IsItemOf (Logical format) c bytes
stored_item format c z y bytes h e long is item = (long, ap (stored_content format) (is ∙ e) ∙ sym h.is, item ∙ ap (bytes_of_number (items_of format)) (sym is))

-- ---- as bytes

pub truth_item : (b : Bool) (n : ℕ) → n ≡ truth_byte b → IsItemOf Boolean (truth b) (n ∷ [])
truth_item b n e = subst (λ m. m ∷ [] ≡ truth_byte b ∷ []) (sym e) refl

-- the bytes of the value are those of the scalar, by the kind
pub item_held : (kind k : Kind) (x : Scalar) (v : ScalarValue) (r : RawTree) (bytes : List ℕ) → kind ≡ k → Some v ≡ x.value → value_tree v ≡ r → IsItemOf k (content r) bytes → IsItemOf kind (scalar_content x) bytes
item_held kind k x v r bytes e f g h =
    let q : content r ≡ scalar_content x = sym (ap content g) ∙ held x v f in
    subst (λ j. IsItemOf j (scalar_content x) bytes) (sym e) (subst (λ y. IsItemOf k y bytes) q h)

pub ruleset shown = (bool_held, integer_held, number_held, text_held, large_text_held, bytes_held, large_bytes_held, none_held, stored_in)
