-- Bounds of strings and bytes, cut to a length in bytes.
use Rattle.std.specs.Prelude.{◌≡◌, ℕ, ◌<◌, Bool, not, ◌&&◌, List, length, Option, Some, None, MatchOption, IsSomeAnd}
use Rattle.vortex_bounds.specs.Strings.{HasNoUpper, IsLower, IsUpper}
use Rattle.vortex_bounds.specs.Texts.{HasNoTextUpper, IsTextLower, IsTextUpper}
use Rattle.vortex_bounds.specs.Truncation.{IsLowerOf, IsUpperOf}
use Rattle.vortex_dtype.specs.TypeTree.{TypeTree, binary_type, utf8_type}
use Rattle.vortex_dtype.specs.declared.buffer.TheConstants.{INLINE_BYTES}
use Rattle.vortex_value.specs.Values.RawTree.{RawTree, raw_bytes, raw_text}
use Rattle.vortex_value.specs.Values.Scalars.{scalar_raw, scalar_type}
use Rattle.vortex_value.specs.declared.scalars.Scalar.{Scalar}
use Rattle.vortex_statistics.specs.declared.column_statistics.Bound.{Bound}
use Rattle.vortex_statistics.specs.declared.column_statistics.ColumnStatistics.{ColumnStatistics}
use Rattle.vortex_statistics.specs.declared.error.StatisticsError.{StatisticsError}
use Rattle.vortex_statistics.specs.declared.error.StatisticsError.TheVariants.{OutOfMemory}

-- c bounds what b does, by the scalar that truncation gives; it is exact if b is and was not cut
pub record IsCut (Bounding : Scalar → Bool → Type 0) (b c : Bound) : Type 0 where
  pub cut : Bool
  pub bound : Bounding c.value cut
  pub exact : c.is_exact ≡ (b.is_exact && not cut)

-- c is the lower bound at n bytes of a bound that has bytes
abbrev pub IsCutLower : (List ℕ → ℕ → List ℕ → Type 0) → (List ℕ → RawTree) → ℕ → Bound → Option Bound → Type 0
IsCutLower Best raw n b c = (bs : List ℕ) × (scalar_raw b.value ≡ raw bs) × IsSomeAnd c (IsCut (IsLowerOf Best raw (scalar_type b.value) bs n) b)

-- c is its upper bound at n bytes, if there is one
abbrev pub IsCutUpper : (List ℕ → ℕ → List ℕ → Type 0) → (List ℕ → ℕ → Type 0) → (List ℕ → RawTree) → ℕ → Bound → Option Bound → Type 0
IsCutUpper Best HasNone raw n b c = (bs : List ℕ) × (scalar_raw b.value ≡ raw bs)
    × MatchOption c ((n < length bs) × HasNone bs n) (IsCut (IsUpperOf Best raw (scalar_type b.value) bs n) b)

-- c is the lower bound b at n bytes, by the type and the raw value of b: a string and bytes are cut to the best lower bound,
-- and all else stays
abbrev pub LowerAt : TypeTree → RawTree → ℕ → Bound → Bound → Type 0
LowerAt (utf8_type k) (raw_text bs) n b c = IsCut (IsLowerOf IsTextLower raw_text (utf8_type k) bs n) b c
LowerAt (binary_type k) (raw_bytes bs) n b c = IsCut (IsLowerOf IsLower raw_bytes (binary_type k) bs n) b c
LowerAt _ _ n b c = c ≡ b

-- c is the upper bound b at n bytes: there is none exactly if a longer value has none
abbrev pub UpperAt : TypeTree → RawTree → ℕ → Bound → Option Bound → Type 0
UpperAt (utf8_type k) (raw_text bs) n b c = MatchOption c ((n < length bs) × HasNoTextUpper bs n) (IsCut (IsUpperOf IsTextUpper raw_text (utf8_type k) bs n) b)
UpperAt (binary_type k) (raw_bytes bs) n b c = MatchOption c ((n < length bs) × HasNoUpper bs n) (IsCut (IsUpperOf IsUpper raw_bytes (binary_type k) bs n) b)
UpperAt _ _ n b c = c ≡ Some b

abbrev pub IsTruncatedLower : ℕ → Option Bound → Option Bound → Type 0
IsTruncatedLower n None c = c ≡ None
IsTruncatedLower n (Some b) c = IsSomeAnd c (LowerAt (scalar_type b.value) (scalar_raw b.value) n b)

abbrev pub IsTruncatedUpper : ℕ → Option Bound → Option Bound → Type 0
IsTruncatedUpper n None c = c ≡ None
IsTruncatedUpper n (Some b) c = UpperAt (scalar_type b.value) (scalar_raw b.value) n b c

-- t are the statistics s with their bounds cut to n bytes
pub record AreTruncated (n : ℕ) (s t : ColumnStatistics) : Type 0 where
  pub rows : t.row_count ≡ s.row_count
  pub nulls : t.null_count ≡ s.null_count
  pub lower : IsTruncatedLower n s.lower t.lower
  pub upper : IsTruncatedUpper n s.upper t.upper

-- ---- lengths

-- a string, or bytes, of more than n bytes, by type and raw value
abbrev pub LongAt : TypeTree → RawTree → ℕ → Type 0
LongAt (utf8_type k) (raw_text bs) n = n < length bs
LongAt (binary_type k) (raw_bytes bs) n = n < length bs
LongAt _ _ n = ⊥

-- the bound is there, and is a string or bytes of more than n bytes
abbrev pub IsLong : ℕ → Option Bound → Type 0
IsLong n None = ⊥
IsLong n (Some b) = LongAt (scalar_type b.value) (scalar_raw b.value) n

-- the raw value of the bound has more than n bytes
abbrev pub IsLongRaw : (List ℕ → RawTree) → ℕ → Bound → Type 0
IsLongRaw raw n b = (bs : List ℕ) × (scalar_raw b.value ≡ raw bs) × (n < length bs)

-- there is no memory for what a cut takes: no cut to 22 bytes or less takes any
abbrev pub IsOutOfMemoryAt : ℕ → Type 0 → StatisticsError → Type 0
IsOutOfMemoryAt n Long e = (e ≡ OutOfMemory) × (INLINE_BYTES < n) × Long

-- no bound that is a string, or bytes, has more than n bytes
abbrev pub HasShortBounds : ℕ → ColumnStatistics → Type 0
HasShortBounds n s = ¬ (IsLong n s.lower) × ¬ (IsLong n s.upper)
