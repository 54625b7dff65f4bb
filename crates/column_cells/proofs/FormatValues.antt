-- What stores the values of a format is a valid value of its type.
use Rattle.std.proofs.Common.{◌≡◌, ◌∙◌, ◌<◌, ◌≤◌, ◌^◌, ◌/◌, ℕ, zero, suc, ℤ, Bool, true, false, List, [], ◌∷◌, Option, Some, arith, ap, codes, nat_le, refl, subst, sym, unsigned_abs, if◌then◌else◌}
use mir.Syntax.{w128, w64}
use Rattle.std.proofs.lemmas.Bool.Decides.{nat_tests}
use Rattle.std.proofs.lemmas.Int.{fits_signed_from_abs, ints}
use Rattle.std.proofs.Math.Nat.{mod-lt, pow-le-pow_right}
use Rattle.std.specs.Int.{byte_at, bytes_high_first}
use Rattle.std.specs.Option.{IfSome}
use Rattle.arrow_columns.specs.Formats.{IsSound, IsValueOf, greatest_precision}
use Rattle.arrow_columns.specs.Spans.{AreBytes}
use Rattle.arrow_columns.specs.declared.formats.DecimalWidth.{DecimalWidth}
use Rattle.arrow_columns.specs.declared.formats.DecimalWidth.TheVariants.{Bits32, Bits64, Bits128}
use Rattle.arrow_columns.specs.declared.formats.Format.{Format}
use Rattle.arrow_columns.specs.declared.formats.Format.TheVariants.{Float32, Float64, Date32, Time, Timestamp, Decimal}
use Rattle.arrow_columns.specs.declared.tested_rows.Rows.{Rows}
use Rattle.arrow_columns.specs.declared.tested_rows.Rows.TheVariants.{Booleans, Bytes, Integers, Nulls, Strings, Values}
use Rattle.logical_scalars.specs.Stored.{raw_storage, storage_tree}
use Rattle.logical_types.specs.Extensions.{FitsStorage, id_of, metadata_of, time_storage}
use Rattle.logical_types.specs.Storing.{decimal_bytes}
use Rattle.logical_types.specs.declared.extensions.StorageType.{StorageType}
use Rattle.logical_types.specs.declared.extensions.StorageType.TheVariants as storages
use Rattle.logical_types.specs.declared.logical.LogicalType.TheVariants as logical
use Rattle.logical_types.specs.declared.times.TimeUnit.{TimeUnit}
use Rattle.logical_types.specs.declared.times.TimeUnit.TheVariants.{Seconds, Milliseconds, Microseconds, Nanoseconds}
use Rattle.vortex_dtype.specs.TypeTree.{extension_type}
use Rattle.vortex_dtype.specs.declared.nullability.Nullability.TheVariants.{Nullable}
use Rattle.vortex_value.specs.Validity.{Valid}
use Rattle.vortex_value.specs.Values.Content.{content, null, string, whole}
use Rattle.vortex_value.specs.Values.RawTree.{RawTree, absent}
use Rattle.column_cells.specs.Contents.{content_or_null, stored_content}
use Rattle.column_cells.specs.Laws.{HasBytes, IsOfType}
use Rattle.column_cells.specs.Types.{decimal_storage, storage_of_format, type_of_format, type_of_rows}

-- ---- nulls

null_of : (id metadata : List ℕ) (kind : StorageType) → Valid (extension_type id metadata (storage_tree kind Nullable)) absent
null_of id metadata storages.I32 = refl
null_of id metadata storages.I64 = refl
null_of id metadata storages.Bytes = refl

pub null_valid : (format : Format) → Valid (type_of_format format) absent
null_valid Float32 = refl
null_valid Float64 = refl
null_valid Date32 = refl
null_valid (Time unit) = null_of (id_of (logical.Time unit)) (metadata_of (logical.Time unit)) (time_storage unit)
null_valid (Timestamp unit is_zoned) = null_of (id_of (logical.Timestamp unit is_zoned)) (metadata_of (logical.Timestamp unit is_zoned)) storages.I64
null_valid (Decimal width precision scale) = null_of (codes "doqallin.decimal") (precision ∷ scale ∷ []) (decimal_storage precision)

pub null_of_format : (format : Format) → IsOfType (type_of_format format) null
null_of_format format = record { value = absent; valid = null_valid format; is = refl; bytes = tt }

-- a null is valid for the type of any rows
pub null_of_rows : (rows : Rows) → Valid (type_of_rows rows) absent
null_of_rows (Integers rows) = refl
null_of_rows (Booleans rows) = refl
null_of_rows (Strings rows) = refl
null_of_rows (Bytes rows) = refl
null_of_rows (Nulls count) = refl
null_of_rows (Values rows) = null_valid rows.format

-- ---- values

few_digits : (width : DecimalWidth) (precision : ℕ) → precision ≤ greatest_precision width → precision ≤ 38
few_digits Bits32 precision h = omega (arith, h)
few_digits Bits64 precision h = omega (arith, h)
few_digits Bits128 precision h = h

decimal_fits : (b : Bool) (p : ℕ) (z : ℤ) → nat_le p 18 ≡ b → p ≤ 38 → unsigned_abs z < 10 ^ p → FitsStorage (if b then storages.I64 else storages.Bytes) z
decimal_fits true p z e l h =
    let k : p ≤ 18 = grind (arith, nat_tests) in
    let m : 10 ^ p ≤ 10 ^ 18 = pow-le-pow_right (omega arith) k in
    fits_signed_from_abs w64 z (omega arith)
decimal_fits false p z e l h =
    let m : 10 ^ p ≤ 10 ^ 38 = pow-le-pow_right (omega arith) l in
    fits_signed_from_abs w128 z (omega arith)

-- what stores the values of a format holds their numbers
pub fits_format : (format : Format) (z : ℤ) → IsSound format → IsValueOf format z → FitsStorage (storage_of_format format) z
fits_format Float32 z s h = omega (arith, ints, h.low, h.high)
fits_format Float64 z s h = omega (arith, ints, h.low, h.high)
fits_format Date32 z s h = omega (arith, ints, h.0, h.1)
fits_format (Time Seconds) z s h = omega (arith, ints, h.0, h.1)
fits_format (Time Milliseconds) z s h = omega (arith, ints, h.0, h.1)
fits_format (Time Microseconds) z s h = omega (arith, ints, h.0, h.1)
fits_format (Time Nanoseconds) z s h = omega (arith, ints, h.0, h.1)
fits_format (Timestamp unit is_zoned) z s h = h.fits
fits_format (Decimal width precision scale) z s h = decimal_fits (nat_le precision 18) precision z refl (few_digits width precision s.1) h

valid_in : (id metadata : List ℕ) (kind : StorageType) (z : ℤ) → FitsStorage kind z → Valid (extension_type id metadata (storage_tree kind Nullable)) (raw_storage kind z)
valid_in id metadata storages.I32 z h = (refl, h)
valid_in id metadata storages.I64 z h = (refl, h)
valid_in id metadata storages.Bytes z h = tt

pub stored_valid : (format : Format) (z : ℤ) → FitsStorage (storage_of_format format) z → Valid (type_of_format format) (raw_storage (storage_of_format format) z)
stored_valid Float32 z h = (refl, h)
stored_valid Float64 z h = (refl, h)
stored_valid Date32 z h = (refl, h)
stored_valid (Time unit) z h = valid_in (id_of (logical.Time unit)) (metadata_of (logical.Time unit)) (time_storage unit) z h
stored_valid (Timestamp unit is_zoned) z h = valid_in (id_of (logical.Timestamp unit is_zoned)) (metadata_of (logical.Timestamp unit is_zoned)) storages.I64 z h
stored_valid (Decimal width precision scale) z h = valid_in (codes "doqallin.decimal") (precision ∷ scale ∷ []) (decimal_storage precision) z h

time_content : (unit : TimeUnit) (z : ℤ) → content (raw_storage (time_storage unit) z) ≡ whole z
time_content Seconds z = refl
time_content Milliseconds z = refl
time_content Microseconds z = refl
time_content Nanoseconds z = refl

decimal_content : (b : Bool) (z : ℤ) → content (raw_storage (if b then storages.I64 else storages.Bytes) z) ≡ (if b then whole z else string (decimal_bytes z))
decimal_content true z = refl
decimal_content false z = refl

pub stored_is : (format : Format) (z : ℤ) → content (raw_storage (storage_of_format format) z) ≡ stored_content format z
stored_is Float32 z = refl
stored_is Float64 z = refl
stored_is Date32 z = refl
stored_is (Time unit) z = time_content unit z
stored_is (Timestamp unit is_zoned) z = refl
stored_is (Decimal width precision scale) z = decimal_content (nat_le precision 18) z

byte_below : (i v : ℕ) → byte_at i v < 256
byte_below zero v = mod-lt v (omega arith)
byte_below (suc i) v = mod-lt (v / 256 ^ suc i) (omega arith)

high_bytes : (n v : ℕ) → AreBytes (bytes_high_first n v)
high_bytes zero v k = omega arith
high_bytes (suc n) v zero = byte_below n v
high_bytes (suc n) v (suc k) = high_bytes n v k

decimal_has_bytes : (b : Bool) (z : ℤ) → HasBytes (if b then whole z else string (decimal_bytes z))
decimal_has_bytes true z = tt
decimal_has_bytes false z = high_bytes 16 _

has_bytes : (format : Format) (z : ℤ) → HasBytes (stored_content format z)
has_bytes Float32 z = tt
has_bytes Float64 z = tt
has_bytes Date32 z = tt
has_bytes (Time unit) z = tt
has_bytes (Timestamp unit is_zoned) z = tt
has_bytes (Decimal width precision scale) z = decimal_has_bytes (nat_le precision 18) z

pub value_of_format : (format : Format) (z : ℤ) → IsSound format → IsValueOf format z → IsOfType (type_of_format format) (stored_content format z)
value_of_format format z s h = record {
  value = raw_storage (storage_of_format format) z;
  valid = stored_valid format z (fits_format format z s h);
  is = stored_is format z;
  bytes = has_bytes format z;
}

-- the raw value that was made of a number
pub stored_content_is : (format : Format) (kind : StorageType) (z y : ℤ) (v : RawTree) (cell : Option ℤ) → cell ≡ Some z → z ≡ y → kind ≡ storage_of_format format → v ≡ raw_storage kind y
    → content v ≡ content_or_null (stored_content format) cell
stored_content_is format kind z y v cell is same k e =
    ap content e ∙ ap (λ n. content (raw_storage kind n)) (sym same) ∙ ap (λ s. content (raw_storage s z)) k ∙ stored_is format z ∙ sym (ap (content_or_null (stored_content format)) is)

pub stored_is_valid : (format : Format) (kind : StorageType) (z : ℤ) (v : RawTree) → FitsStorage kind z → kind ≡ storage_of_format format → v ≡ raw_storage kind z → Valid (type_of_format format) v
stored_is_valid format kind z v h k e =
    subst (Valid (type_of_format format)) (sym (e ∙ ap (λ s. raw_storage s z) k)) (stored_valid format z (subst (λ s. FitsStorage s z) k h))

pub number_fits : (format : Format) (kind : StorageType) (z y : ℤ) (cell : Option ℤ) → cell ≡ Some z → z ≡ y → kind ≡ storage_of_format format → IsSound format → IfSome cell (IsValueOf format) → FitsStorage kind y
number_fits format kind z y cell is same k s h = subst (FitsStorage kind) same (subst (λ t. FitsStorage t z) (sym k) (fits_format format z s (subst (λ o. IfSome o (IsValueOf format)) is h)))
