-- The types of the kinds of columns have bytes.
use Rattle.std.proofs.Common.{◌≡◌, ◌==◌, ◌&&◌, ℕ, zero, suc, ◌<◌, ◌≤◌, Bool, true, false, List, [], ◌∷◌, Option, Some, None, arith, codes, nat_le, nat_lt, refl, subst, if◌then◌else◌}
use Rattle.std.proofs.lemmas.Bool.Decides.{nat_tests}
use Rattle.std.proofs.lemmas.Str.{IsUtf8-from_ascii}
use Rattle.std.proofs.lemmas.Str.Ascii.{IsAscii-cons, IsAscii-nil}
use Rattle.std.specs.Prelude.{IsAscii, IsUtf8, option_map}
use Rattle.arrow_columns.specs.Formats.{IsSound, decimal_format_at, format_at, greatest_precision}
use Rattle.arrow_columns.specs.Kinds.{integer_kind_at, kind_with}
use Rattle.arrow_columns.specs.declared.formats.DecimalWidth.{DecimalWidth}
use Rattle.arrow_columns.specs.declared.formats.DecimalWidth.TheVariants.{Bits32, Bits64, Bits128}
use Rattle.arrow_columns.specs.declared.formats.Format.{Format}
use Rattle.arrow_columns.specs.declared.formats.Format.TheVariants.{Float32, Float64, Date32, Time, Timestamp, Decimal}
use Rattle.arrow_columns.specs.declared.kinds.Kind.{Kind}
use Rattle.arrow_columns.specs.declared.kinds.Kind.TheVariants.{Binary, Boolean, Integer, LargeBinary, LargeUtf8, Logical, Null, Utf8}
use Rattle.column_cells.specs.Types.{type_at, type_of_format, type_of_kind}
use Rattle.logical_scalars.specs.Stored.{storage_tree}
use Rattle.logical_types.specs.declared.extensions.StorageType.TheVariants.{I64, Bytes}
use Rattle.logical_types.specs.Extensions.{metadata_of}
use Rattle.logical_types.specs.declared.logical.LogicalType.TheVariants as logical
use Rattle.logical_types.specs.declared.times.TimeUnit.{TimeUnit}
use Rattle.logical_types.specs.declared.times.TimeUnit.TheVariants.{Seconds, Milliseconds, Microseconds, Nanoseconds}
use Rattle.vortex_dtype.specs.declared.nullability.Nullability.TheVariants.{Nullable}
use Rattle.vortex_row.specs.Held.{AreBytes}
use Rattle.filter_encoding.specs.Encoding.{HasByte, IsPlain}
use Rattle.filter_sql.proofs.ConditionSteps.{map_some}
use Rattle.vortex_c.specs.FilterSql.{kind_of_named}
use Rattle.vortex_c.specs.declared.sql.NamedKind.{NamedKind}

-- ---- the numbers of a format that a code is of have a meaning

-- what one of two options has
by-choice : {X : Type 0} (P : X → Type 0) (b : Bool) (x y : Option X) (z : X) → (x ≡ Some z → P z) → (y ≡ Some z → P z) → (if b then x else y) ≡ Some z → P z
by-choice P true x y z h k e = h e
by-choice P false x y z h k e = k e

as-is : {X : Type 0} (P : X → Type 0) (x z : X) → P x → Some x ≡ Some z → P z
as-is P x z h e = let same : x ≡ z = cc in subst P same h

none-is : {X : Type 0} (P : X → Type 0) (z : X) → None ≡ Some z → P z
none-is P z e = absurd cc

and-first : (p q : Bool) → (p && q) ≡ true → p ≡ true
and-first true q e = refl
and-first false q e = absurd cc

and-second : (p q : Bool) → (p && q) ≡ true → q ≡ true
and-second true q e = e
and-second false q e = absurd cc

decimal-sound : (width : DecimalWidth) (precision scale : ℕ) (f : Format) → decimal_format_at width precision scale ≡ Some f → IsSound f
decimal-sound width precision scale f e = by_test (nat_lt 0 precision && (nat_le precision (greatest_precision width) && nat_le scale precision)) refl e
  where
    by_test : (b : Bool) → (nat_lt 0 precision && (nat_le precision (greatest_precision width) && nat_le scale precision)) ≡ b → (if b then Some (Decimal width precision scale) else None) ≡ Some f → IsSound f
    by_test false t g = none-is IsSound f g
    by_test true t g =
        let some = and-first (nat_lt 0 precision) (nat_le precision (greatest_precision width) && nat_le scale precision) t in
        let rest = and-second (nat_lt 0 precision) (nat_le precision (greatest_precision width) && nat_le scale precision) t in
        let digits = and-first (nat_le precision (greatest_precision width)) (nat_le scale precision) rest in
        let places = and-second (nat_le precision (greatest_precision width)) (nat_le scale precision) rest in
        as-is IsSound (Decimal width precision scale) f (grind (arith, nat_tests, some), grind (arith, nat_tests, digits), grind (arith, nat_tests, places)) g

format-sound : (code precision scale : ℕ) (f : Format) → format_at code precision scale ≡ Some f → IsSound f
format-sound code precision scale f e =
    by-choice IsSound (code == 14) _ _ f (as-is IsSound Float32 f tt)
    (by-choice IsSound (code == 15) _ _ f (as-is IsSound Float64 f tt)
    (by-choice IsSound (code == 16) _ _ f (as-is IsSound Date32 f tt)
    (by-choice IsSound (code == 17) _ _ f (as-is IsSound (Time Seconds) f tt)
    (by-choice IsSound (code == 18) _ _ f (as-is IsSound (Time Milliseconds) f tt)
    (by-choice IsSound (code == 19) _ _ f (as-is IsSound (Time Microseconds) f tt)
    (by-choice IsSound (code == 20) _ _ f (as-is IsSound (Time Nanoseconds) f tt)
    (by-choice IsSound (code == 29) _ _ f (decimal-sound Bits32 precision scale f)
    (by-choice IsSound (code == 30) _ _ f (decimal-sound Bits64 precision scale f)
    (by-choice IsSound (code == 31) _ _ f (decimal-sound Bits128 precision scale f)
    (by-choice IsSound (code == 21) _ _ f (as-is IsSound (Timestamp Seconds false) f tt)
    (by-choice IsSound (code == 22) _ _ f (as-is IsSound (Timestamp Milliseconds false) f tt)
    (by-choice IsSound (code == 23) _ _ f (as-is IsSound (Timestamp Microseconds false) f tt)
    (by-choice IsSound (code == 24) _ _ f (as-is IsSound (Timestamp Nanoseconds false) f tt)
    (by-choice IsSound (code == 25) _ _ f (as-is IsSound (Timestamp Seconds true) f tt)
    (by-choice IsSound (code == 26) _ _ f (as-is IsSound (Timestamp Milliseconds true) f tt)
    (by-choice IsSound (code == 27) _ _ f (as-is IsSound (Timestamp Microseconds true) f tt)
    (by-choice IsSound (code == 28) _ _ f (as-is IsSound (Timestamp Nanoseconds true) f tt) (none-is IsSound f)))))))))))))))))) e

abbrev IsSoundKind : Kind → Type 0
IsSoundKind (Logical format) = IsSound format
IsSoundKind _ = Unit {0}

integers-sound : (code : ℕ) (kind : Kind) → option_map Integer (integer_kind_at code) ≡ Some kind → IsSoundKind kind
integers-sound code kind e = let m = map_some (integer_kind_at code) Integer kind e in subst IsSoundKind m.2 tt

formats-sound : (code precision scale : ℕ) (kind : Kind) → option_map Logical (format_at code precision scale) ≡ Some kind → IsSoundKind kind
formats-sound code precision scale kind e = let m = map_some (format_at code precision scale) Logical kind e in subst IsSoundKind m.2 (format-sound code precision scale m.0 m.1)

kind-sound : (code precision scale : ℕ) (kind : Kind) → kind_with code precision scale ≡ Some kind → IsSoundKind kind
kind-sound code precision scale kind e =
    by-choice IsSoundKind (code == 8) _ _ kind (as-is IsSoundKind Boolean kind tt)
    (by-choice IsSoundKind (code == 9) _ _ kind (as-is IsSoundKind Utf8 kind tt)
    (by-choice IsSoundKind (code == 10) _ _ kind (as-is IsSoundKind LargeUtf8 kind tt)
    (by-choice IsSoundKind (code == 11) _ _ kind (as-is IsSoundKind Binary kind tt)
    (by-choice IsSoundKind (code == 12) _ _ kind (as-is IsSoundKind LargeBinary kind tt)
    (by-choice IsSoundKind (code == 13) _ _ kind (as-is IsSoundKind Null kind tt)
    (by-choice IsSoundKind (nat_lt code 8) _ _ kind (integers-sound code kind) (formats-sound code precision scale kind))))))) e

-- ---- ids and metadata that memory can hold

no-bytes : AreBytes []
no-bytes k = omega arith

more-bytes : (b : ℕ) (bytes : List ℕ) → b < 256 → AreBytes bytes → AreBytes (b ∷ bytes)
more-bytes b bytes small all zero = small
more-bytes b bytes small all (suc k) = all k

abbrev are_small : List ℕ → Bool
are_small [] = true
are_small (b ∷ bytes) = nat_lt b 256 && are_small bytes

are-bytes : (bytes : List ℕ) → are_small bytes ≡ true → AreBytes bytes
are-bytes [] e = no-bytes
are-bytes (b ∷ bytes) e =
    let here = and-first (nat_lt b 256) (are_small bytes) e in
    more-bytes b bytes (grind (arith, nat_tests, here)) (are-bytes bytes (and-second (nat_lt b 256) (are_small bytes) e))

abbrev are_ascii : List ℕ → Bool
are_ascii [] = true
are_ascii (b ∷ bytes) = nat_lt b 128 && are_ascii bytes

is-ascii : (bytes : List ℕ) → are_ascii bytes ≡ true → IsAscii bytes
is-ascii [] e = IsAscii-nil
is-ascii (b ∷ bytes) e =
    let here = and-first (nat_lt b 128) (are_ascii bytes) e in
    IsAscii-cons b bytes (grind (arith, nat_tests, here)) (is-ascii bytes (and-second (nat_lt b 128) (are_ascii bytes) e))

-- the id of an extension, as memory holds one
id-held : (id : List ℕ) → are_ascii id ≡ true → AreBytes id × IsUtf8 id
id-held id e =
    let ascii = is-ascii id e in
    (λ k. omega (arith, ascii k), IsUtf8-from_ascii id ascii)

digits-most : (width : DecimalWidth) → greatest_precision width ≤ 38
digits-most Bits32 = omega arith
digits-most Bits64 = omega arith
digits-most Bits128 = omega arith

-- ---- types

decimal-stored : (b : Bool) → HasByte (storage_tree (if b then I64 else Bytes) Nullable)
decimal-stored true = tt
decimal-stored false = tt

plain-format : (format : Format) → IsSound format → IsPlain (type_of_format format)
plain-format Float32 s = record { id_held = id-held (codes "doqallin.f32") refl; metadata_held = no-bytes; stored = tt }
plain-format Float64 s = record { id_held = id-held (codes "doqallin.f64") refl; metadata_held = no-bytes; stored = tt }
plain-format Date32 s = record { id_held = id-held (codes "vortex.date") refl; metadata_held = are-bytes (4 ∷ []) refl; stored = tt }
plain-format (Time Seconds) s = record { id_held = id-held (codes "vortex.time") refl; metadata_held = are-bytes (3 ∷ []) refl; stored = tt }
plain-format (Time Milliseconds) s = record { id_held = id-held (codes "vortex.time") refl; metadata_held = are-bytes (2 ∷ []) refl; stored = tt }
plain-format (Time Microseconds) s = record { id_held = id-held (codes "vortex.time") refl; metadata_held = are-bytes (1 ∷ []) refl; stored = tt }
plain-format (Time Nanoseconds) s = record { id_held = id-held (codes "vortex.time") refl; metadata_held = are-bytes (0 ∷ []) refl; stored = tt }
plain-format (Timestamp unit is_zoned) s = record { id_held = id-held (codes "vortex.timestamp") refl; metadata_held = zoned unit is_zoned; stored = tt }
  where
    zoned : (unit : TimeUnit) (is_zoned : Bool) → AreBytes (metadata_of (logical.Timestamp unit is_zoned))
    zoned Seconds false = are-bytes (3 ∷ 0 ∷ 0 ∷ []) refl
    zoned Milliseconds false = are-bytes (2 ∷ 0 ∷ 0 ∷ []) refl
    zoned Microseconds false = are-bytes (1 ∷ 0 ∷ 0 ∷ []) refl
    zoned Nanoseconds false = are-bytes (0 ∷ 0 ∷ 0 ∷ []) refl
    zoned Seconds true = are-bytes (3 ∷ 3 ∷ 0 ∷ codes "UTC") refl
    zoned Milliseconds true = are-bytes (2 ∷ 3 ∷ 0 ∷ codes "UTC") refl
    zoned Microseconds true = are-bytes (1 ∷ 3 ∷ 0 ∷ codes "UTC") refl
    zoned Nanoseconds true = are-bytes (0 ∷ 3 ∷ 0 ∷ codes "UTC") refl
plain-format (Decimal width precision scale) s =
    let most = digits-most width in
    record {
      id_held = id-held (codes "doqallin.decimal") refl;
      metadata_held = more-bytes precision (scale ∷ []) (omega (arith, s.1, most)) (more-bytes scale [] (omega (arith, s.2, s.1, most)) no-bytes);
      stored = decimal-stored (nat_le precision 18);
    }

plain-kind : (kind : Kind) → IsSoundKind kind → IsPlain (type_of_kind kind)
plain-kind (Integer kind) s = tt
plain-kind Boolean s = tt
plain-kind Utf8 s = tt
plain-kind LargeUtf8 s = tt
plain-kind Binary s = tt
plain-kind LargeBinary s = tt
plain-kind Null s = tt
plain-kind (Logical format) s = plain-format format s

-- of no kind it is that of nulls
pub plain-column : (column : NamedKind) → IsPlain (type_at (kind_of_named column))
plain-column column = by_kind (kind_of_named column) refl
  where
    by_kind : (o : Option Kind) → kind_of_named column ≡ o → IsPlain (type_at o)
    by_kind None is = tt
    by_kind (Some kind) is = plain-kind kind (kind-sound column.kind column.precision column.scale kind is)
