-- What a word writes in a column of a logical type is a value of it, and so is what lies just below.
use Rattle.std.proofs.Common.{◌≡◌, ◌==◌, ◌&&◌, ◌⊎◌, inl, inr, ◌+◌, ◌-◌, ◌*◌, ◌/◌, ◌%◌, ◌^◌, ◌<◌, ℕ, zero, suc, ℤ, pos, negsuc, neg_ℤ, unsigned_abs, Bool, true, false, not, List, [], ◌∷◌, Option, Some, None, arith, refl, subst, sym, drop, nat_lt, slice_index, if◌then◌else◌}
use Rattle.std.proofs.lemmas.Bool.Decides.{nat_tests}
use Rattle.std.specs.Char.{is_ascii_digit}
use Rattle.std.specs.Float.{Float, Format, binary32, binary64}
use Rattle.std.specs.Float.Parse.{parse_float}
use Rattle.std.specs.Prelude.{option_map, to_bits}
use Rattle.float_storage.specs.Storage.{IsStorage, infinity, storage_of}
use Rattle.float_storage.proofs.Order.{bits_are_storages}
use Rattle.jiff_core.specs.Calendar.{IsEpochDay}
use Rattle.jiff_core.proofs.DateLemmas.{epoch_day_range}
use Rattle.logical_types.specs.Decimals.{decimal_value, fraction_from, scaled, whole_from}
use Rattle.logical_types.specs.Floats.{bounded, has_digit, storage_written}
use Rattle.logical_types.specs.Places.{fine_scale, number_at}
use Rattle.logical_types.specs.Shapes.{at_value_or, place_at, place_below_zero, place_from_zero, place_in}
use Rattle.logical_types.specs.Words.{IsStorageOf, Writes}
use Rattle.logical_types.specs.declared.decimals.places.DecimalPlace.{DecimalPlace}
use Rattle.logical_types.specs.declared.decimals.places.DecimalPlace.TheVariants.{At, Behind, BelowAll, AboveAll}
use Rattle.logical_types.specs.declared.logical.LogicalType.{LogicalType}
use Rattle.logical_types.specs.declared.logical.LogicalType.TheVariants.{Float64, Float32, Decimal, Date, Time, Timestamp}
use Rattle.filter_sql.proofs.ConditionSteps.{bind_some, map_some}

-- ---- choices

pub less-by : (x y : ℕ) → nat_lt x y ≡ true → x < y
less-by x y t = grind (arith, nat_tests)

-- what one of two options has
either-has : {X : Type 0} (b : Bool) (x y : Option X) (z : X) → (if b then x else y) ≡ Some z → (x ≡ Some z) ⊎ (y ≡ Some z)
either-has true x y z e = inl e
either-has false x y z e = inr e

no-number : (m : ℕ) → None ≡ Some m → ⊥
no-number m e = cc

-- ---- floats

within-bounds : (f : Format) (word : List ℕ) (y z : ℤ) → bounded f word y ≡ Some z → y ≡ z
within-bounds f word y z e = by_test ((unsigned_abs y == infinity f) && has_digit word) e
  where
    by_test : (b : Bool) → (if b then None else Some y) ≡ Some z → y ≡ z
    by_test true e = absurd cc
    by_test false e = cc

float-written : (f : Format) (word : List ℕ) (z : ℤ) → storage_written f word ≡ Some z → IsStorage f z
float-written f word z e =
    let a = bind_some (parse_float f word) (λ (x : Float). bounded f word (storage_of f x)) z e in
    subst (IsStorage f) (within-bounds f word (storage_of f a.0) z a.2) (bits_are_storages f (to_bits f a.0))

-- ---- decimals

scaled-small : (limit places value m : ℕ) → scaled limit places value ≡ Some m → m < limit
scaled-small limit places value m e = by_test (nat_lt (value * 10 ^ places) limit) refl e
  where
    by_test : (b : Bool) → nat_lt (value * 10 ^ places) limit ≡ b → (if b then Some (value * 10 ^ places) else None) ≡ Some m → m < limit
    by_test true t e = let same : value * 10 ^ places ≡ m = cc in subst (λ (n : ℕ). n < limit) same (less-by (value * 10 ^ places) limit t)
    by_test false t e = absurd (no-number m e)

fraction-small : (limit places : ℕ) (some : Bool) (value : ℕ) (cs : List ℕ) (m : ℕ) → fraction_from limit places some value cs ≡ Some m → m < limit
fraction-small limit places true value [] m e = scaled-small limit places value m e
fraction-small limit places false value [] m e = absurd (no-number m e)
fraction-small limit places some value (c ∷ cs) m e =
    elim (either-has (is_ascii_digit c) _ _ m e) [
      | inl digit ↦ elim (either-has (places == 0) _ _ m digit) [
        | inl full ↦ elim (either-has (c == 48) _ _ m full) [
          | inl more ↦ fraction-small limit 0 true value cs m more
          | inr none ↦ absurd (no-number m none)
        ]
        | inr left ↦ elim (either-has (nat_lt (value * 10 + (c - 48)) limit) _ _ m left) [
          | inl more ↦ fraction-small limit (places - 1) true (value * 10 + (c - 48)) cs m more
          | inr none ↦ absurd (no-number m none)
        ]
      ]
      | inr none ↦ absurd (no-number m none)
    ]

whole-small : (limit scale : ℕ) (some : Bool) (value : ℕ) (cs : List ℕ) (m : ℕ) → whole_from limit scale some value cs ≡ Some m → m < limit
whole-small limit scale true value [] m e = scaled-small limit scale value m e
whole-small limit scale false value [] m e = absurd (no-number m e)
whole-small limit scale some value (c ∷ cs) m e =
    elim (either-has (is_ascii_digit c) _ _ m e) [
      | inl digit ↦ elim (either-has (nat_lt (value * 10 + (c - 48)) limit) _ _ m digit) [
        | inl more ↦ whole-small limit scale true (value * 10 + (c - 48)) cs m more
        | inr none ↦ absurd (no-number m none)
      ]
      | inr point ↦ elim (either-has (some && c == 46) _ _ m point) [
        | inl more ↦ fraction-small limit scale false value cs m more
        | inr none ↦ absurd (no-number m none)
      ]
    ]

size-below : (n : ℕ) → unsigned_abs (neg_ℤ (pos n)) ≡ n
size-below zero = refl
size-below (suc n) = refl

decimal-small : (limit scale : ℕ) (word : List ℕ) (z : ℤ) → decimal_value limit scale word ≡ Some z → unsigned_abs z < limit
decimal-small limit scale word z e =
    elim (either-has (slice_index word 0 == 45) _ _ z e) [ inl below ↦ negative below | inr above ↦ positive above ]
  where
    negative : option_map (λ (n : ℕ). neg_ℤ (pos n)) (whole_from limit scale false 0 (drop 1 word)) ≡ Some z → unsigned_abs z < limit
    negative below =
        let m = map_some (whole_from limit scale false 0 (drop 1 word)) (λ (n : ℕ). neg_ℤ (pos n)) z below in
        subst (λ (y : ℤ). unsigned_abs y < limit) m.2 (subst (λ (n : ℕ). n < limit) (sym (size-below m.0)) (whole-small limit scale false 0 (drop 1 word) m.0 m.1))

    positive : option_map pos (whole_from limit scale false 0 word) ≡ Some z → unsigned_abs z < limit
    positive above =
        let m = map_some (whole_from limit scale false 0 word) pos z above in
        subst (λ (y : ℤ). unsigned_abs y < limit) m.2 (whole-small limit scale false 0 word m.0 m.1)

-- ---- values of each type

pub value-written : (l : LogicalType) (word : List ℕ) (z : ℤ) → Writes l word z → IsStorageOf l z
value-written Float64 word z w = float-written binary64 word z w
value-written Float32 word z w = float-written binary32 word z w
value-written (Decimal d) word z w = decimal-small (10 ^ d.precision) d.scale word z w
value-written Date word z w = subst IsEpochDay w.counted (epoch_day_range w.date)
value-written (Time unit) word z w = w.is
value-written (Timestamp unit is_zoned) word z w = w.is

-- ---- places among decimals

-- the value at a place, or just below it, has its size below a limit
abbrev pub IsPlaced : ℕ → DecimalPlace → Type 0
IsPlaced limit (At z) = unsigned_abs z < limit
IsPlaced limit (Behind z) = unsigned_abs z < limit
IsPlaced limit BelowAll = Unit {0}
IsPlaced limit AboveAll = Unit {0}

from-zero : (limit factor rest : ℕ) → IsPlaced limit (place_from_zero limit factor rest)
from-zero limit factor rest = by_tests (rest == 0) (nat_lt factor limit) (nat_lt factor (limit - 1)) refl refl
  where
    by_tests : (r b c : Bool) → nat_lt factor limit ≡ b → nat_lt factor (limit - 1) ≡ c → IsPlaced limit (if r && b then At (pos factor) else if not r && c then Behind (pos factor) else AboveAll)
    by_tests true true c f g = less-by factor limit f
    by_tests true false c f g = tt
    by_tests false b true f g = let less = less-by factor (limit - 1) g in omega (arith, less)
    by_tests false b false f g = tt

below-zero : (limit factor rest : ℕ) → IsPlaced limit (place_below_zero limit factor rest)
below-zero limit factor rest = by_tests (rest == 0) (nat_lt factor limit) (nat_lt factor (limit - 1)) refl refl
  where
    by_tests : (r b c : Bool) → nat_lt factor limit ≡ b → nat_lt factor (limit - 1) ≡ c → IsPlaced limit (if r && b then At (neg_ℤ (pos factor)) else if not r && c then Behind (neg_ℤ (pos (factor + 1))) else BelowAll)
    by_tests true true c f g = subst (λ (n : ℕ). n < limit) (sym (size-below factor)) (less-by factor limit f)
    by_tests true false c f g = tt
    by_tests false b true f g = let less = less-by factor (limit - 1) g in subst (λ (n : ℕ). n < limit) (sym (size-below (factor + 1))) (omega (arith, less))
    by_tests false b false f g = tt

at-place : (limit unit : ℕ) (z : ℤ) → IsPlaced limit (place_at limit unit z)
at-place limit unit (pos m) = from-zero limit (m / unit) (m % unit)
at-place limit unit (negsuc m) = below-zero limit ((m + 1) / unit) ((m + 1) % unit)

pub placed : (precision scale : ℕ) (word : List ℕ) (place : DecimalPlace) → place_in precision scale word ≡ Some place → IsPlaced (10 ^ precision) place
unfolding place_in
placed precision scale word place e = by_value (decimal_value (10 ^ precision) scale word) refl e
  where
    by_value : (o : Option ℤ) → decimal_value (10 ^ precision) scale word ≡ o → at_value_or o (option_map (place_at (10 ^ precision) (10 ^ (fine_scale scale word - scale))) (number_at (fine_scale scale word) word)) ≡ Some place
        → IsPlaced (10 ^ precision) place
    by_value (Some z) is e = let same : At z ≡ place = cc in subst (IsPlaced (10 ^ precision)) same (decimal-small (10 ^ precision) scale word z is)
    by_value None is e =
        let m = map_some (number_at (fine_scale scale word) word) (place_at (10 ^ precision) (10 ^ (fine_scale scale word - scale))) place e in
        subst (IsPlaced (10 ^ precision)) m.2 (at-place (10 ^ precision) (10 ^ (fine_scale scale word - scale)) m.0)
