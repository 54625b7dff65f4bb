-- The bounds of a zone of values, and which values they hold possible.
use Rattle.std.specs.Prelude.{◌≡◌, ℕ, ◌<◌, ◌&&◌, ◌||◌, ◌⊎◌, List, length, Bool, false, not, IsTrue, Option, Some, None, IfSome, MatchOption, if◌then◌else◌}
use Rattle.std.specs.Ordering.{partial_lt, partial_gt}
use Rattle.std.specs.declared.cmp.Ordering.TheVariants.{Less, Greater}
use Rattle.vortex_dtype.specs.Parts.{is_binary_type, is_utf8_type}
use Rattle.vortex_dtype.specs.TypeTree.{TypeTree, Same, binary_type, utf8_type}
use Rattle.vortex_dtype.specs.declared.error.VortexError.{VortexError}
use Rattle.vortex_dtype.specs.declared.error.VortexError.TheVariants.{OutOfMemory, IsNull, WrongKind}
use Rattle.vortex_dtype.specs.declared.nullability.Nullability.{Nullability}
use Rattle.vortex_dtype.specs.declared.nullability.Nullability.TheVariants.{NonNullable}
use Rattle.vortex_value.specs.Values.RawTree.{RawTree, absent, is_absent, raw_bytes, raw_text}
use Rattle.vortex_value.specs.Values.Scalars.{IsValid, scalar_order, scalar_raw, scalar_type}
use Rattle.vortex_value.specs.declared.scalars.Scalar.{Scalar}
use Rattle.vortex_array.specs.Words.{HasNoUpper, IsLower, IsUpper, HasNoTextUpper, IsTextLower, IsTextUpper, IsLowerOf, IsSource, IsTypeOfKind, IsUpperOf, MayHold}

-- what contracts see of a zone's bounds
pub record Bounds : Type 0 where
  pub lower : Scalar
  pub upper : Option Scalar

-- both bounds are valid, and of one type
abbrev pub AreValidBounds : Scalar → Option Scalar → Type 0
AreValidBounds lower upper = IsValid lower × IfSome upper (λ u. IsValid u × (scalar_type u ≡ scalar_type lower))

-- ---- what is asked of the bounds

-- whether the value is below the bound
abbrev pub is_below : Scalar → Scalar → Bool
is_below v lower = partial_lt scalar_order v lower

-- whether the value is above the bound, if there is one
abbrev pub is_above : Scalar → Option Scalar → Bool
is_above v None = false
is_above v (Some upper) = partial_gt scalar_order v upper

-- whether a zone of these bounds may hold the value: a null, or what is neither below the lower bound nor above the upper one
abbrev pub may_hold : Bounds → Scalar → Bool
may_hold z v = is_absent (scalar_raw v) || not (is_below v z.lower || is_above v z.upper)

-- the value is neither below the least nor above the greatest
abbrev pub IsWithin : Scalar → Scalar → Scalar → Type 0
IsWithin least greatest v = ¬ (scalar_order v least ≡ Some Less) × ¬ (scalar_order v greatest ≡ Some Greater)

-- each value from the least to the greatest is held possible
abbrev pub LosesNothing : Scalar → Scalar → Bounds → Type 0
LosesNothing least greatest z = (v : Scalar) → IsWithin least greatest v → IsTrue (may_hold z v)

-- ---- what the bounds are

-- lower is the lower bound of the least value at n bytes, and upper the upper bound of the greatest one, if there is one
pub record AreBoundsOfKind (BestLower BestUpper : List ℕ → ℕ → List ℕ → Type 0) (HasNone : List ℕ → ℕ → Type 0) (raw : List ℕ → RawTree) (t : TypeTree) (least greatest : Scalar) (n : ℕ) (z : Bounds) : Type 0 where
  pub least_bytes : List ℕ
  pub greatest_bytes : List ℕ
  pub of_least : IsSource t (raw least_bytes) least
  pub of_greatest : IsSource t (raw greatest_bytes) greatest
  pub lower : (cut : Bool) × IsLowerOf BestLower raw t least_bytes n z.lower cut
  pub upper : MatchOption z.upper
      ((n < length greatest_bytes) × HasNone greatest_bytes n)
      (λ u. (cut : Bool) × IsUpperOf BestUpper raw t greatest_bytes n u cut)

-- z are the bounds at n bytes of two strings, or of two values of bytes
abbrev pub AreBoundsOf : Scalar → Scalar → ℕ → Bounds → Type 0
AreBoundsOf least greatest n z =
    AreBoundsOfKind IsTextLower IsTextUpper HasNoTextUpper raw_text (utf8_type NonNullable) least greatest n z
    ⊎ AreBoundsOfKind IsLower IsUpper HasNoUpper raw_bytes (binary_type NonNullable) least greatest n z

-- ---- why there are none

-- whether both types are Utf8, or both Binary
abbrev pub are_of_one_kind : TypeTree → TypeTree → Bool
are_of_one_kind s t = (is_utf8_type s && is_utf8_type t) || (is_binary_type s && is_binary_type t)

-- why there are no bounds whatever memory there is, the first cause in this order
abbrev pub refusal : Scalar → Scalar → Option VortexError
refusal least greatest =
    if are_of_one_kind (scalar_type least) (scalar_type greatest)
    then (if is_absent (scalar_raw least) || is_absent (scalar_raw greatest) then Some IsNull else None)
    else Some WrongKind

-- how many bytes a string or a value of bytes has
abbrev pub byte_length : RawTree → ℕ
byte_length (raw_text bs) = length bs
byte_length (raw_bytes bs) = length bs
byte_length _ = 0

-- one of the two is longer than n bytes
abbrev pub IsLongerThan : ℕ → Scalar → Scalar → Type 0
IsLongerThan n least greatest = (n < byte_length (scalar_raw least)) ⊎ (n < byte_length (scalar_raw greatest))

-- x is null or has a raw value of this form, and its type is one of these at some nullability
pub record IsOfKind (type_at : Nullability → TypeTree) (raw : List ℕ → RawTree) (x : Scalar) : Type 0 where
  pub typed : IsTypeOfKind type_at (scalar_type x)
  pub same : Same (scalar_type x) (type_at NonNullable)
  pub value : MayHold raw (scalar_raw x)

-- neither scalar is null, and one is longer than n bytes
pub record AreTooLong (raw : List ℕ → RawTree) (least greatest : Scalar) (n : ℕ) : Type 0 where
  pub least_bytes : List ℕ
  pub greatest_bytes : List ℕ
  pub of_least : scalar_raw least ≡ raw least_bytes
  pub of_greatest : scalar_raw greatest ≡ raw greatest_bytes
  pub longer : (n < length least_bytes) ⊎ (n < length greatest_bytes)

-- why two scalars that are both strings, or both bytes, have no bounds: one is null, or there is no memory
abbrev pub Stops : (List ℕ → RawTree) → Scalar → Scalar → ℕ → VortexError → Type 0
Stops raw least greatest n e =
    ((e ≡ IsNull) × ((scalar_raw least ≡ absent) ⊎ (scalar_raw greatest ≡ absent)))
    ⊎ ((e ≡ OutOfMemory) × AreTooLong raw least greatest n)
