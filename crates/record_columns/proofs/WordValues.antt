-- What a word of a logical type writes is the storage of a value.
use Rattle.std.proofs.Common.{◌≡◌, ◌⊎◌, ◌<◌, ◌*◌, ◌+◌, ◌-◌, ◌^◌, ◌==◌, ◌&&◌, ℕ, zero, suc, ℤ, pos, neg_ℤ, Bool, true, false, List, [], ◌∷◌, Option, Some, None, drop, get_or, inl, inr, nat_lt, refl, subst, sym, unsigned_abs, if◌then◌else◌}
use Rattle.std.proofs.lemmas.Bool.{ltb-true}
use Rattle.std.specs.Char.{is_ascii_digit}
use Rattle.std.specs.Float.{Float, Format, binary32, binary64}
use Rattle.std.specs.Prelude.{to_bits}
use Rattle.std.specs.Float.Parse.{parse_float}
use Rattle.std.specs.Option.{option_and_then, option_map}
use Rattle.float_storage.proofs.Order.{bits_are_storages}
use Rattle.float_storage.specs.Storage.{IsStorage, infinity, storage_of}
use Rattle.jiff_core.proofs.DateLemmas.{epoch_day_range}
use Rattle.jiff_core.specs.Calendar.{IsEpochDay}
use Rattle.logical_types.specs.Decimals.{decimal_value, fraction_from, scaled, whole_from}
use Rattle.logical_types.specs.Floats.{bounded, has_digit}
use Rattle.logical_types.specs.Words.{IsStorageOf, Writes}
use Rattle.logical_types.specs.declared.logical.LogicalType.{LogicalType}
use Rattle.logical_types.specs.declared.logical.LogicalType.TheVariants.{Float64, Float32, Decimal, Date, Time, Timestamp}

chosen : {X : Type 0} (b : Bool) (x y : Option X) (m : X) → (if b then x else y) ≡ Some m → ((b ≡ true) × (x ≡ Some m)) ⊎ ((b ≡ false) × (y ≡ Some m))
chosen true x y m h = inl (refl, h)
chosen false x y m h = inr (refl, h)

none_is : {X : Type 0} (m : X) → None ≡ Some m → ⊥
none_is m h = cc

-- ---- floats

kept : (b : Bool) (y z : ℤ) → (if b then None else Some y) ≡ Some z → y ≡ z
kept true y z h = absurd (none_is z h)
kept false y z h = cc

float_read : (f : Format) (word : List ℕ) (o : Option Float) (z : ℤ) → option_and_then (λ (x : Float). bounded f word (storage_of f x)) o ≡ Some z → IsStorage f z
float_read f word None z h = absurd (none_is z h)
float_read f word (Some x) z h = subst (IsStorage f) (kept ((unsigned_abs (storage_of f x) == infinity f) && has_digit word) (storage_of f x) z h) (bits_are_storages f (to_bits f x))

-- ---- decimals

scaled_small : (limit places v m : ℕ) → scaled limit places v ≡ Some m → m < limit
scaled_small limit places v m h =
    elim (chosen (nat_lt (v * 10 ^ places) limit) _ _ m h) [
      | inl (below, e) ↦ let is : v * 10 ^ places ≡ m = cc in subst (λ (n : ℕ). n < limit) is (ltb-true (v * 10 ^ places) limit below)
      | inr (_, e) ↦ absurd (none_is m e)
    ]

fraction_small : (limit places : ℕ) (some : Bool) (v : ℕ) (cs : List ℕ) (m : ℕ) → fraction_from limit places some v cs ≡ Some m → m < limit
fraction_small limit places true v [] m h = scaled_small limit places v m h
fraction_small limit places false v [] m h = absurd (none_is m h)
fraction_small limit places some v (c ∷ cs) m h =
    elim (chosen (is_ascii_digit c) _ _ m h) [
      | inl (_, e) ↦ elim (chosen (places == 0) _ _ m e) [
        | inl (_, last) ↦ elim (chosen (c == 48) _ _ m last) [ inl (_, rest) ↦ fraction_small limit 0 true v cs m rest | inr (_, none) ↦ absurd (none_is m none) ]
        | inr (_, more) ↦ elim (chosen (nat_lt (v * 10 + (c - 48)) limit) _ _ m more) [ inl (_, rest) ↦ fraction_small limit (places - 1) true (v * 10 + (c - 48)) cs m rest | inr (_, none) ↦ absurd (none_is m none) ]
      ]
      | inr (_, e) ↦ absurd (none_is m e)
    ]

whole_small : (limit scale : ℕ) (some : Bool) (v : ℕ) (cs : List ℕ) (m : ℕ) → whole_from limit scale some v cs ≡ Some m → m < limit
whole_small limit scale true v [] m h = scaled_small limit scale v m h
whole_small limit scale false v [] m h = absurd (none_is m h)
whole_small limit scale some v (c ∷ cs) m h =
    elim (chosen (is_ascii_digit c) _ _ m h) [
      | inl (_, e) ↦ elim (chosen (nat_lt (v * 10 + (c - 48)) limit) _ _ m e) [ inl (_, rest) ↦ whole_small limit scale true (v * 10 + (c - 48)) cs m rest | inr (_, none) ↦ absurd (none_is m none) ]
      | inr (_, e) ↦ elim (chosen (some && c == 46) _ _ m e) [ inl (_, rest) ↦ fraction_small limit scale false v cs m rest | inr (_, none) ↦ absurd (none_is m none) ]
    ]

mapped : (g : ℕ → ℤ) (o : Option ℕ) (z : ℤ) → option_map g o ≡ Some z → (n : ℕ) × (o ≡ Some n) × (g n ≡ z)
mapped g None z h = absurd (none_is z h)
mapped g (Some n) z h = let is : g n ≡ z = cc in (n, refl, is)

negated : (n : ℕ) → unsigned_abs (neg_ℤ (pos n)) ≡ n
negated zero = refl
negated (suc n) = refl

decimal_small : (limit scale : ℕ) (word : List ℕ) (z : ℤ) → decimal_value limit scale word ≡ Some z → unsigned_abs z < limit
decimal_small limit scale word z h =
    elim (chosen (get_or word 0 0 == 45) _ _ z h) [
      | inl (_, e) ↦
          let p = mapped (λ n. neg_ℤ (pos n)) (whole_from limit scale false 0 (drop 1 word)) z e in
          subst (λ (x : ℤ). unsigned_abs x < limit) p.2 (subst (λ (n : ℕ). n < limit) (sym (negated p.0)) (whole_small limit scale false 0 (drop 1 word) p.0 p.1))
      | inr (_, e) ↦
          let p = mapped pos (whole_from limit scale false 0 word) z e in
          subst (λ (x : ℤ). unsigned_abs x < limit) p.2 (whole_small limit scale false 0 word p.0 p.1)
    ]

-- ---- each logical type

pub written_value : (l : LogicalType) (word : List ℕ) (z : ℤ) → Writes l word z → IsStorageOf l z
written_value Float64 word z h = float_read binary64 word (parse_float binary64 word) z h
written_value Float32 word z h = float_read binary32 word (parse_float binary32 word) z h
written_value (Decimal d) word z h = decimal_small (10 ^ d.precision) d.scale word z h
written_value Date word z h = subst IsEpochDay h.counted (epoch_day_range h.date)
written_value (Time unit) word z h = h.is
written_value (Timestamp unit is_zoned) word z h = h.is
