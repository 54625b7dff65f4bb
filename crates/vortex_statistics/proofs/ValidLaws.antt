-- Bounds that are copies of a valid scalar, or cut from one, are valid.
use Rattle.std.proofs.Common.{ℕ, Option, Some, None, sym, subst}
use Rattle.vortex_dtype.specs.TypeTree.{TypeTree, binary_type, utf8_type}
use Rattle.vortex_value.specs.Validity.{Valid}
use Rattle.vortex_value.specs.Values.RawTree.{RawTree, raw_bytes, raw_text}
use Rattle.vortex_value.specs.Values.Refs.{IsValidRef, ref_raw, ref_type}
use Rattle.vortex_value.specs.Values.Scalars.{IsMadeOf, IsValid, scalar_raw, scalar_type}
use Rattle.vortex_value.specs.declared.refs.ScalarRef.{ScalarRef}
use Rattle.vortex_value.specs.declared.scalars.Scalar.{Scalar}
use Rattle.vortex_statistics.specs.Statistics.{HasValidBounds, IsValidBound}
use Rattle.vortex_statistics.specs.Truncating.{AreTruncated, IsTruncatedLower, IsTruncatedUpper, LowerAt, UpperAt}
use Rattle.vortex_statistics.specs.declared.column_statistics.Bound.{Bound}
use Rattle.vortex_statistics.specs.declared.column_statistics.ColumnStatistics.{ColumnStatistics}

-- a copy of a valid scalar
pub made_valid : (r : ScalarRef) (x : Scalar) → IsMadeOf (ref_type r) (ref_raw r) x → IsValidRef r → IsValid x
made_valid r x made valid = subst (λ t. Valid t (scalar_raw x)) (sym made.typed) (subst (Valid (ref_type r)) (sym made.value) valid)

pub ruleset copies = (made_valid)

-- ---- bounds that were cut

lower_at : (t : TypeTree) (v : RawTree) (n : ℕ) (b c : Bound) → IsValid b.value → LowerAt t v n b c → IsValid c.value
lower_at (utf8_type k) (raw_text bs) n b c valid h = h.bound.bound.valid
lower_at (binary_type k) (raw_bytes bs) n b c valid h = h.bound.bound.valid
lower_at t v n b c valid h = let P : Bound → Type 0 = λ d. IsValid d.value in subst P (sym h) valid

upper_at : (t : TypeTree) (v : RawTree) (n : ℕ) (b : Bound) (c : Option Bound) → IsValid b.value → UpperAt t v n b c → IsValidBound c
upper_at (utf8_type k) (raw_text bs) n b None valid h = tt
upper_at (utf8_type k) (raw_text bs) n b (Some c) valid h = h.bound.bound.valid
upper_at (binary_type k) (raw_bytes bs) n b None valid h = tt
upper_at (binary_type k) (raw_bytes bs) n b (Some c) valid h = h.bound.bound.valid
upper_at t v n b c valid h = subst IsValidBound (sym h) valid

cut_lower : (n : ℕ) (b c : Option Bound) → IsValidBound b → IsTruncatedLower n b c → IsValidBound c
cut_lower n None c valid h = subst IsValidBound (sym h) tt
cut_lower n (Some b) None valid h = absurd h
cut_lower n (Some b) (Some c) valid h = lower_at (scalar_type b.value) (scalar_raw b.value) n b c valid h

cut_upper : (n : ℕ) (b c : Option Bound) → IsValidBound b → IsTruncatedUpper n b c → IsValidBound c
cut_upper n None c valid h = subst IsValidBound (sym h) tt
cut_upper n (Some b) c valid h = upper_at (scalar_type b.value) (scalar_raw b.value) n b c valid h

pub truncated_valid : (n : ℕ) (s t : ColumnStatistics) → AreTruncated n s t → HasValidBounds s → HasValidBounds t
truncated_valid n s t h valid = record {
  lower = cut_lower n s.lower t.lower valid.lower h.lower;
  upper = cut_upper n s.upper t.upper valid.upper h.upper;
}
