-- As what a bound is cut, and on which side, as the code finds it.
use Rattle.std.specs.Prelude.{ℕ, Bool, List, Option, Result, if◌then◌else◌}
use Rattle.vortex_bounds.specs.Truncation.{IsLowerAnswer, IsUpperAnswer}
use Rattle.vortex_dtype.specs.Parts.{is_binary_type, is_utf8_type}
use Rattle.vortex_dtype.specs.TypeTree.{TypeTree}
use Rattle.vortex_value.specs.Values.RawTree.{RawTree, raw_bytes, raw_text}
use Rattle.vortex_dtype.specs.declared.error.VortexError.{VortexError}
use Rattle.vortex_dtype.specs.declared.nullability.Nullability.{Nullability}
use Rattle.vortex_value.specs.declared.scalars.Scalar.{Scalar}
use Rattle.vortex_statistics.specs.Truncating.{IsCutLower, IsCutUpper, IsTruncatedLower, IsTruncatedUpper}
use Rattle.vortex_statistics.specs.declared.column_statistics.Bound.{Bound}
use Rattle.vortex_statistics.specs.declared.truncating.Kind.{Kind}
use Rattle.vortex_statistics.specs.declared.truncating.Kind.TheVariants.{Bytes, Text, Whole}
use Rattle.vortex_statistics.specs.declared.truncating.Side.{Side}
use Rattle.vortex_statistics.specs.declared.truncating.Side.TheVariants.{Lower, Upper}

-- what a bound of this type and value is cut as
abbrev pub kind_of : TypeTree → RawTree → Kind
kind_of t (raw_text bs) = if is_utf8_type t then Text else Whole
kind_of t (raw_bytes bs) = if is_binary_type t then Bytes else Whole
kind_of t _ = Whole

-- c is the bound b at n bytes, if there is one
abbrev pub IsTruncated : Side → ℕ → Option Bound → Option Bound → Type 0
IsTruncated Lower n b c = IsTruncatedLower n b c
IsTruncated Upper n b c = IsTruncatedUpper n b c

-- c is the best lower bound at n bytes of a bound that has bytes, or the best upper one
abbrev pub IsCutAt : Side → (List ℕ → ℕ → List ℕ → Type 0) → (List ℕ → ℕ → List ℕ → Type 0) → (List ℕ → ℕ → Type 0) → (List ℕ → RawTree) → ℕ → Bound → Option Bound → Type 0
IsCutAt Lower Below Above HasNone raw n b c = IsCutLower Below raw n b c
IsCutAt Upper Below Above HasNone raw n b c = IsCutUpper Above HasNone raw n b c

-- what `lower_bound` or `upper_bound` of vortex_bounds answers
abbrev pub IsBestAnswer : {V : Type 0} → Side → (List ℕ → ℕ → List ℕ → Type 0) → (List ℕ → ℕ → List ℕ → Type 0) → (List ℕ → ℕ → Type 0) → (List ℕ → RawTree) → (Nullability → TypeTree) → (V → List ℕ) → Option V → ℕ → Nullability
    → Result (Option (Scalar × Bool)) VortexError → Type 0
IsBestAnswer Lower Below Above HasNone raw type_at bytes v n k r = IsLowerAnswer Below raw type_at bytes v n k r
IsBestAnswer Upper Below Above HasNone raw type_at bytes v n k r = IsUpperAnswer Above HasNone raw type_at bytes v n k r
