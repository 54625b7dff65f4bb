-- Whether a zone with these bounds may hold a value, told by bytes.
use Rattle.std.specs.Prelude.{◌≡◌, ℕ, ◌||◌, List, Bool, false, not, Option, Some, None}
use Rattle.std.specs.Cmp.Lexicographic.{slice_cmp}
use Rattle.std.specs.Ordering.{is_lt, is_gt, nat_cmp}
use Rattle.vortex_dtype.specs.TypeTree.{TypeTree}
use Rattle.vortex_value.specs.Values.RawTree.{RawTree}
use Rattle.vortex_value.specs.declared.scalars.Scalar.{Scalar}
use Rattle.vortex_bounds.specs.Truncation.{IsSource}
use Rattle.vortex_zone.specs.Zone.{Bounds, may_hold}

-- whether the bytes are above the bound, if there is one
abbrev pub is_above_bytes : List ℕ → Option (List ℕ) → Bool
is_above_bytes v None = false
is_above_bytes v (Some upper) = is_gt (slice_cmp nat_cmp v upper)

-- whether the bytes are neither below the lower bound nor above the upper one
abbrev pub may_hold_bytes : List ℕ → Option (List ℕ) → List ℕ → Bool
may_hold_bytes lower upper v = not (is_lt (slice_cmp nat_cmp v lower) || is_above_bytes v upper)

-- a zone's bounds are scalars of these bytes, of a type that is t up to nullability
abbrev pub AreScalarsOf : TypeTree → (List ℕ → RawTree) → List ℕ → Option (List ℕ) → Bounds → Type 0
AreScalarsOf t raw lower None z = IsSource t (raw lower) z.lower × (z.upper ≡ None)
AreScalarsOf t raw lower (Some upper) z = IsSource t (raw lower) z.lower
    × ((x : Scalar) × (z.upper ≡ Some x) × IsSource t (raw upper) x)

-- this is the answer of each zone with such bounds, of each scalar of these bytes
abbrev pub IsAnswerOfZones : TypeTree → (List ℕ → RawTree) → List ℕ → Option (List ℕ) → List ℕ → Bool → Type 0
IsAnswerOfZones t raw lower upper value answer = (z : Bounds) (v : Scalar) → AreScalarsOf t raw lower upper z
    → IsSource t (raw value) v → may_hold z v ≡ answer
