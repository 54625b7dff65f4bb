-- The number that a raw value stores.
use Rattle.std.proofs.Common.{◌≡◌, ◌∙◌, ◌≤◌, ◌^◌, inl, inr, ℕ, ℤ, Bool, true, false, FitsSigned, List, Some, ap, arith, if◌then◌else◌, length, refl, rules, subst, sym}
use mir.Syntax.{w128}
use Rattle.std.proofs.Math.Nat.{pow-le-pow_right}
use Rattle.std.proofs.lemmas.Bool.{false≢true}
use Rattle.std.proofs.lemmas.Cmp.{int_ranked, nat_list_cmp_total, tied_itself}
use Rattle.std.proofs.lemmas.Int.{fits_signed_from_abs}
use Rattle.std.specs.Cmp.Lexicographic.{slice_cmp}
use Rattle.std.specs.Ordering.{MatchOrdering, int_cmp, nat_cmp}
use Rattle.std.specs.Prelude.{◌<ℤ◌, IsTrue}
use Rattle.std.specs.declared.cmp.Ordering.TheVariants.{Equal}
use Rattle.arrow_columns.proofs.FormatSteps.{as_storage, as_value, is_sound}
use Rattle.arrow_columns.specs.Formats.{IsLogicalTypeOf, IsSound, IsValueOf}
use Rattle.arrow_columns.specs.declared.formats.DecimalWidth.TheVariants.{Bits32, Bits64, Bits128}
use Rattle.arrow_columns.specs.declared.formats.Format.{Format}
use Rattle.arrow_columns.specs.declared.formats.Format.TheVariants.{Float32, Float64, Date32, Time, Timestamp, Decimal}
use Rattle.arrow_columns.specs.declared.kinds.Kind.TheVariants.{Logical}
use Rattle.column_cells.specs.Contents.{stored_content}
use Rattle.logical_types.specs.Storing.{decimal_bytes}
use Rattle.logical_types.specs.Words.{IsStorageOf}
use Rattle.logical_types.specs.declared.logical.LogicalType.{LogicalType}
use Rattle.vortex_value.specs.Values.Content.{Content, content, null, string, whole}
use Rattle.vortex_value.specs.Values.RawOf.{raw_of, value_tree}
use Rattle.vortex_value.specs.Values.RawTree.{RawTree, absent, is_absent}
use Rattle.vortex_value.specs.Values.Scalars.{scalar_content}
use Rattle.vortex_value.specs.declared.scalars.Scalar.{Scalar}
use Rattle.vortex_value.specs.declared.values.ScalarValue.{ScalarValue, the_lemmas}
use Rattle.vortex_value.specs.declared.values.ScalarValue.TheVariants.{Binary, Primitive}
use Rattle.vortex_pvalue.specs.Whole.{whole_of}
use Rattle.vortex_pvalue.specs.declared.pvalues.PValue.{PValue}
use Rattle.column_items.specs.Numbers.{HasContentOf, StoresNumber}

-- ---- the content of a number, by whether it is wide

-- what a format stores, as its test tells it
abbrev pub Holds : Format → Bool → Type 0
Holds format wide = (z : ℤ) → stored_content format z ≡ (if wide then string (decimal_bytes z) else whole z)

one_whole : (x z : ℤ) → whole x ≡ whole z → x ≡ z
one_whole x z e = cc

one_string : (xs ys : List ℕ) → string xs ≡ string ys → xs ≡ ys
one_string xs ys e = cc

-- ---- decimals of 128 bits

decimal_fits : (format : Format) (z : ℤ) → IsSound format → IsValueOf format z → stored_content format z ≡ string (decimal_bytes z) → FitsSigned w128 z
decimal_fits (Decimal Bits32 precision scale) z s h e = let m : 10 ^ precision ≤ 10 ^ 9 = pow-le-pow_right {n = 10} (omega arith) s.1 in fits_signed_from_abs w128 z (omega (arith, h, m))
decimal_fits (Decimal Bits64 precision scale) z s h e = let m : 10 ^ precision ≤ 10 ^ 18 = pow-le-pow_right {n = 10} (omega arith) s.1 in fits_signed_from_abs w128 z (omega (arith, h, m))
decimal_fits (Decimal Bits128 precision scale) z s h e = let m : 10 ^ precision ≤ 10 ^ 38 = pow-le-pow_right {n = 10} (omega arith) s.1 in fits_signed_from_abs w128 z (omega (arith, h, m))
decimal_fits Float32 z s h e = cc
decimal_fits Float64 z s h e = cc
decimal_fits Date32 z s h e = cc
decimal_fits (Time unit) z s h e = cc
decimal_fits (Timestamp unit is_zoned) z s h e = cc

abbrev pub AreSorted : Type 0
AreSorted = (x y : ℤ) → FitsSigned w128 x → FitsSigned w128 y → slice_cmp nat_cmp (decimal_bytes x) (decimal_bytes y) ≡ int_cmp x y

one_number : AreSorted → (x y : ℤ) → FitsSigned w128 x → FitsSigned w128 y → decimal_bytes x ≡ decimal_bytes y → x ≡ y
one_number law x y f g e =
    let tied : int_cmp x y ≡ Equal = sym (law x y f g) ∙ ap (slice_cmp nat_cmp (decimal_bytes x)) (sym e) ∙ tied_itself nat_list_cmp_total (decimal_bytes x) in
    subst (λ o. MatchOrdering o (x <ℤ y) (x ≡ y) (y <ℤ x)) tied (int_ranked x y (int_cmp x y) refl)

-- ---- what is stored

pub stores_whole : (format : Format) (l : LogicalType) (c : Content) (z : ℤ) → Holds format false → c ≡ whole z → IsLogicalTypeOf format l → IsStorageOf l z → StoresNumber format c z
stores_whole format l c z holds e of h = record { sound = is_sound format l of; value = as_value format l z of h; is = e ∙ sym (holds z) }

pub stores_bytes : (format : Format) (l : LogicalType) (c : Content) (bytes : List ℕ) (z : ℤ) → Holds format true → c ≡ string bytes → decimal_bytes z ≡ bytes → IsLogicalTypeOf format l → IsStorageOf l z → StoresNumber format c z
stores_bytes format l c bytes z holds e b of h = record { sound = is_sound format l of; value = as_value format l z of h; is = e ∙ ap string (sym b) ∙ sym (holds z) }

-- ---- what is not

pub unsound : (format : Format) (c : Content) → ¬ (IsSound format) → (z : ℤ) → ¬ (StoresNumber format c z)
unsound format c never z h = never h.sound

pub no_whole : (format : Format) (l : LogicalType) (c : Content) (x : ℤ) → Holds format false → c ≡ whole x → IsLogicalTypeOf format l → ¬ (IsStorageOf l x) → (z : ℤ) → ¬ (StoresNumber format c z)
no_whole format l c x holds e of never z h =
    let same : x ≡ z = one_whole x z (sym e ∙ h.is ∙ holds z) in
    never (subst (IsStorageOf l) (sym same) (as_storage format l z of h.value))

pub no_bytes : (format : Format) (l : LogicalType) (c : Content) (bytes : List ℕ) (x : ℤ) → AreSorted → FitsSigned w128 x → Holds format true → c ≡ string bytes → decimal_bytes x ≡ bytes → IsLogicalTypeOf format l → ¬ (IsStorageOf l x)
    → (z : ℤ) → ¬ (StoresNumber format c z)
no_bytes format l c bytes x law f holds e b of never z h =
    let fits : FitsSigned w128 z = decimal_fits format z h.sound h.value (holds z) in
    let same : x ≡ z = one_number law x z f fits (b ∙ one_string bytes (decimal_bytes z) (sym e ∙ h.is ∙ holds z)) in
    never (subst (IsStorageOf l) (sym same) (as_storage format l z of h.value))

pub wrong_length : (format : Format) (c : Content) (bytes : List ℕ) → Holds format true → c ≡ string bytes → ¬ (length bytes ≡ 16) → (z : ℤ) → ¬ (StoresNumber format c z)
wrong_length format c bytes holds e never z h = never (ap length (one_string bytes (decimal_bytes z) (sym e ∙ h.is ∙ holds z)))

-- the content is of the other shape
abbrev pub HasShape : Bool → Content → Type 0
HasShape true (string bytes) = Unit {0}
HasShape false (whole z) = Unit {0}
HasShape _ _ = ⊥

shaped : (wide : Bool) (z : ℤ) → HasShape wide (if wide then string (decimal_bytes z) else whole z)
shaped true z = tt
shaped false z = tt

pub other_shape : (format : Format) (wide : Bool) (c : Content) → Holds format wide → ¬ (HasShape wide c) → (z : ℤ) → ¬ (StoresNumber format c z)
other_shape format wide c holds never z h = never (subst (HasShape wide) (sym (h.is ∙ holds z)) (shaped wide z))

-- ---- the content of a raw value

pub whole_tree : (n : PValue) → content (value_tree (Primitive n)) ≡ whole (whole_of n)
whole_tree n = search (rules, the_lemmas)

pub bytes_tree : (bytes : List ℕ) → content (value_tree (Binary bytes)) ≡ string bytes
bytes_tree bytes = search (rules, the_lemmas)

-- ---- a value is no null

not_absent : (v : ScalarValue) → is_absent (value_tree v) ≡ false
not_absent v = search (rules, the_lemmas)

null_is_absent : (v : RawTree) → content v ≡ null → is_absent v ≡ true
null_is_absent absent e = refl
null_is_absent _ e = cc

pub no_null : (v : ScalarValue) → content (value_tree v) ≡ null → ⊥
no_null v e = false≢true (sym (not_absent v) ∙ null_is_absent (value_tree v) e)

-- ---- the value of a scalar

-- its content
pub held : (x : Scalar) (v : ScalarValue) → Some v ≡ x.value → content (value_tree v) ≡ scalar_content x
held x v e = ap (λ o. content (raw_of o)) e

-- the number that it stores
pub stored_held : (format : Format) (x : Scalar) (v : ScalarValue) → Some v ≡ x.value → HasContentOf (Logical format) (scalar_content x) → (z : ℤ) × StoresNumber format (content (value_tree v)) z
stored_held format x v e (inl none) = absurd (no_null v (held x v e ∙ none))
stored_held format x v e (inr s) = (s.0, subst (λ c. StoresNumber format c s.0) (sym (held x v e)) s.1)

-- ---- tests

pub untrue : (b : Bool) → b ≡ false → IsTrue b → ⊥
untrue true e h = absurd cc
untrue false e h = absurd cc
