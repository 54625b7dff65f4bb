-- The integers of rows.
use Rattle.std.proofs.Common.{◌≡◌, ◌∙◌, ℕ, ℤ, pos, negsuc, ◌+◌, ◌*◌, ◌^◌, ◌<◌, ◌≤◌, ◌⊎◌, inl, inr, List, length, drop, get_or, refl, sym, subst, ap, arith}
use Rattle.std.specs.Int.{cast_signed, cast_unsigned, from_le_bytes, to_le_bytes, w8, w16, w32, w64}
use Rattle.std.proofs.Math.Facts.{Fits-of_z}
use Rattle.std.proofs.Math.Nat.{mul-le-mul_right}
use Rattle.std.proofs.lemmas.Bool.{cases_lt}
use Rattle.std.proofs.lemmas.Int.{to_z-of_z}
use Rattle.std.proofs.lemmas.Nat.{from_le_bytes-to_le_bytes_2, from_le_bytes-to_le_bytes_4, from_le_bytes-to_le_bytes_8}
use Rattle.std.proofs.lemmas.Slice.{between_is, take-put_mid_below}
use borrow.Rule.Slice.PartMut.{put_mid}
use Rattle.arrow_columns.specs.Integers.{integer_of, item_at, width_of}
use Rattle.arrow_columns.specs.declared.kinds.IntegerKind.{IntegerKind}
use Rattle.arrow_columns.specs.declared.kinds.IntegerKind.TheVariants.{U8, U16, U32, U64, I8, I16, I32, I64}
use Rattle.column_cells.specs.Types.{ptype_of_kind}
use Rattle.vortex_dtype.specs.PTypes.{byte_width_of}
use Rattle.vortex_dtype.specs.TypeTree.{integer_type}
use Rattle.vortex_dtype.specs.declared.nullability.Nullability.TheVariants.{Nullable}
use Rattle.vortex_dtype.specs.declared.ptype.PType.{PType}
use Rattle.vortex_dtype.specs.declared.ptype.PType.TheVariants as types
use Rattle.vortex_pvalue.specs.Bytes.{bytes_of}
use Rattle.vortex_pvalue.specs.Numbers.{InRange}
use Rattle.vortex_value.specs.Validity.{Valid}
use Rattle.vortex_value.specs.Values.Content.{Content, content, null}
use Rattle.vortex_value.specs.Values.RawTree.{RawTree, absent, raw_bool, raw_bytes, raw_integer, raw_text, raw_tuple, raw_union, raw_variant}
use Rattle.column_keys.specs.Layout.{AreIntegers, number_in}

pub width-is : (kind : IntegerKind) → byte_width_of (ptype_of_kind kind) ≡ width_of kind
width-is U8 = refl
width-is U16 = refl
width-is U32 = refl
width-is U64 = refl
width-is I8 = refl
width-is I16 = refl
width-is I32 = refl
width-is I64 = refl

-- ---- what lies before what is written

pub next-item : (j m : ℕ) → (j + 1) * m ≡ j * m + m
next-item j m = grind arith

pub below-item : (j k m : ℕ) → j < k → j * m + m ≤ k * m
below-item j k m h =
    let l : (j + 1) * m ≤ k * m = mul-le-mul_right m (omega (arith, h)) in
    omega (arith, l, next-item j m)

pub item-kept : (a n : ℕ) (xs ys : List ℕ) (m k : ℕ) → k * m + m ≤ a → a ≤ length xs → item_at m (put_mid a n xs ys) k ≡ item_at m xs k
item-kept a n xs ys m k h l =
    between_is (put_mid a n xs ys) (k * m) (k * m + m) ∙ ap (drop (k * m)) (take-put_mid_below a n xs ys (k * m + m) h l) ∙ sym (between_is xs (k * m) (k * m + m))

-- ---- the integer that its bytes stand for

one-byte : (n : ℕ) → n < 2 ^ 8 → from_le_bytes w8 (to_le_bytes w8 n) ≡ n
one-byte n l = omega (arith, l)

pub integer-back : (kind : IntegerKind) (z : ℤ) → InRange (ptype_of_kind kind) z → integer_of kind (bytes_of (ptype_of_kind kind) z) ≡ z
integer-back U8 (pos n) h = ap pos (one-byte n h)
integer-back U8 (negsuc n) h = absurd h
integer-back U16 (pos n) h = ap pos (from_le_bytes-to_le_bytes_2 n h)
integer-back U16 (negsuc n) h = absurd h
integer-back U32 (pos n) h = ap pos (from_le_bytes-to_le_bytes_4 n h)
integer-back U32 (negsuc n) h = absurd h
integer-back U64 (pos n) h = ap pos (from_le_bytes-to_le_bytes_8 n h)
integer-back U64 (negsuc n) h = absurd h
integer-back I8 z h = ap (cast_signed w8) (one-byte (cast_unsigned w8 z) (Fits-of_z h).fits) ∙ to_z-of_z w8 z h
integer-back I16 z h = ap (cast_signed w16) (from_le_bytes-to_le_bytes_2 (cast_unsigned w16 z) (Fits-of_z h).fits) ∙ to_z-of_z w16 z h
integer-back I32 z h = ap (cast_signed w32) (from_le_bytes-to_le_bytes_4 (cast_unsigned w32 z) (Fits-of_z h).fits) ∙ to_z-of_z w32 z h
integer-back I64 z h = ap (cast_signed w64) (from_le_bytes-to_le_bytes_8 (cast_unsigned w64 z) (Fits-of_z h).fits) ∙ to_z-of_z w64 z h

zero-fits : (p : PType) → InRange p (pos 0)
zero-fits types.U8 = omega arith
zero-fits types.U16 = omega arith
zero-fits types.U32 = omega arith
zero-fits types.U64 = omega arith
zero-fits types.I8 = record { sfits = omega arith }
zero-fits types.I16 = record { sfits = omega arith }
zero-fits types.I32 = record { sfits = omega arith }
zero-fits types.I64 = record { sfits = omega arith }

-- the number of a value of an integer type is one of it
pub number-fits : (p : PType) (v : RawTree) → Valid (integer_type p Nullable) v → InRange p (number_in (content v))
number-fits p absent h = zero-fits p
number-fits p (raw_integer l z) h = h.1
number-fits p (raw_bool b) h = absurd h
number-fits p (raw_text bs) h = absurd h
number-fits p (raw_bytes bs) h = absurd h
number-fits p (raw_tuple vs) h = absurd h
number-fits p (raw_union i v) h = absurd h
number-fits p (raw_variant t v) h = absurd h

-- ---- the integers of the rows so far

abbrev pub AreIntegersBefore : IntegerKind → List Content → ℕ → List ℕ → Type 0
AreIntegersBefore kind cells row values = (k : ℕ) → k < row → integer_of kind (item_at (width_of kind) values k) ≡ number_in (get_or cells k null)

pub integers-none : (kind : IntegerKind) (cells : List Content) (values : List ℕ) → AreIntegersBefore kind cells 0 values
integers-none kind cells values k l = absurd (omega (arith, l))

pub integers-more : (kind : IntegerKind) (cells : List Content) (row : ℕ) (values now : List ℕ) (d : Content) (p : PType) (z : ℤ) → get_or cells row null ≡ d → AreIntegersBefore kind cells row values → p ≡ ptype_of_kind kind → z ≡ number_in d
    → InRange (ptype_of_kind kind) (number_in d) → item_at (byte_width_of p) now row ≡ bytes_of p z → ((k : ℕ) → k < row → item_at (byte_width_of p) now k ≡ item_at (byte_width_of p) values k) → AreIntegersBefore kind cells (row + 1) now
integers-more kind cells row values now d p z there all typed is fits here before k l = by_place (cases_lt k row)
  where
    width : byte_width_of p ≡ width_of kind
    width = ap byte_width_of typed ∙ width-is kind

    by_place : (k < row) ⊎ (row ≤ k) → integer_of kind (item_at (width_of kind) now k) ≡ number_in (get_or cells k null)
    by_place (inl less) = ap (integer_of kind) (ap (λ w. item_at w now k) (sym width) ∙ before k less ∙ ap (λ w. item_at w values k) width) ∙ all k less
    by_place (inr after) =
        let at : row ≡ k = omega (arith, after, l) in
        let bytes : item_at (width_of kind) now row ≡ bytes_of (ptype_of_kind kind) (number_in d) = ap (λ w. item_at w now row) (sym width) ∙ here ∙ ap (λ q. bytes_of q z) typed ∙ ap (bytes_of (ptype_of_kind kind)) is in
        subst (λ i. integer_of kind (item_at (width_of kind) now i) ≡ number_in (get_or cells i null)) at (ap (integer_of kind) bytes ∙ integer-back kind (number_in d) fits ∙ ap number_in (sym there))

pub integers-done : (kind : IntegerKind) (cells : List Content) (row : ℕ) (values : List ℕ) → row ≡ length cells → AreIntegersBefore kind cells row values → AreIntegers kind cells values
integers-done kind cells row values at all k l = all k (omega (arith, l, at))

-- there is buffer for the integer of a row
pub number-buffer : (kind : IntegerKind) (p : PType) (row count size : ℕ) → p ≡ ptype_of_kind kind → row < count → count * width_of kind ≤ size → (row + 1) * byte_width_of p ≤ size
number-buffer kind p row count size typed l buffer =
    let width : byte_width_of p ≡ width_of kind = ap byte_width_of typed ∙ width-is kind in
    let less : (row + 1) * width_of kind ≤ count * width_of kind = mul-le-mul_right {m = row + 1} {n = count} (width_of kind) (omega (arith, l)) in
    subst (λ w. (row + 1) * w ≤ size) (sym width) (omega (arith, less, buffer))
