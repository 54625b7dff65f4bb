-- Where a decimal number lies among the values of a type.
use Rattle.std.specs.Prelude.{◌≡◌, ◌==◌, ◌-◌, ◌*◌, ◌^◌, ◌<◌, ℕ, ℤ, pos, neg_ℤ, ◌+ℤ◌, ◌*ℤ◌, ◌<ℤ◌, List, [], ◌∷◌, Option, Some, None, length, max, nat_lt, unsigned_abs, if◌then◌else◌}
use Rattle.logical_types.specs.Decimals.{decimal_value}
use Rattle.logical_types.specs.declared.logical.DecimalType.{DecimalType}
use Rattle.logical_types.specs.declared.decimals.places.DecimalPlace.{DecimalPlace}
use Rattle.logical_types.specs.declared.decimals.places.DecimalPlace.TheVariants.{At, Behind, BelowAll, AboveAll}

-- how many bytes stand behind the first point of a word
abbrev pub places_behind : List ℕ → ℕ
places_behind [] = 0
places_behind (c ∷ cs) = if c == 46 then length cs else places_behind cs

-- so many places hold each digit of the word, and of the values of a scale
abbrev pub fine_scale : ℕ → List ℕ → ℕ
fine_scale scale word = max scale (places_behind word)

-- the number that a word writes at a scale, in at most 38 digits
abbrev pub number_at : ℕ → List ℕ → Option ℤ
number_at scale word = if nat_lt 38 scale then None else decimal_value (10 ^ 38) scale word

-- where m lies among the multiples of a unit whose factors are below a limit in size
abbrev pub IsPlaceOf : ℕ → ℕ → ℤ → DecimalPlace → Type 0
IsPlaceOf limit unit m (At z) = (m ≡ z *ℤ pos unit) × (unsigned_abs z < limit)
IsPlaceOf limit unit m (Behind z) = ((z *ℤ pos unit) <ℤ m) × (m <ℤ ((z +ℤ pos 1) *ℤ pos unit)) × (unsigned_abs z < limit) × (unsigned_abs (z +ℤ pos 1) < limit)
IsPlaceOf limit unit m BelowAll = m <ℤ neg_ℤ (pos ((limit - 1) * unit))
IsPlaceOf limit unit m AboveAll = pos ((limit - 1) * unit) <ℤ m

-- where the number that a word writes lies among the values of the type
pub record IsPlaceOfWord (decimal : DecimalType) (word : List ℕ) (place : DecimalPlace) : Type 0 where
  pub number : ℤ
  pub written : number_at (fine_scale decimal.scale word) word ≡ Some number
  pub lies : IsPlaceOf (10 ^ decimal.precision) (10 ^ (fine_scale decimal.scale word - decimal.scale)) number place
