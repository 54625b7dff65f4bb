-- The encoding of statistics in bytes. This is version 1 of the layout.
use Rattle.std.specs.Prelude.{◌≡◌, ℕ, ◌+◌, ◌*◌, ◌<◌, ◌^◌, List, [], ◌∷◌, ◌++◌, Option, Some, None, IfSome, if◌then◌else◌}
use Rattle.vortex_dtype.specs.TypeTree.{TypeTree}
use Rattle.vortex_value.specs.Equality.{HasNoTyped}
use Rattle.vortex_value.specs.TypesWithin.{HasNoVariant}
use Rattle.vortex_value.specs.Values.Content.{content}
use Rattle.vortex_value.specs.Values.RawTree.{RawTree}
use Rattle.vortex_row.specs.Decoded.{IsValueOf}
use Rattle.vortex_row.specs.Held.{IsHeld}
use Rattle.vortex_row.specs.Keys.{big_endian, key}
use Rattle.vortex_cells.specs.Cells.{Cell}
use Rattle.vortex_statistics.specs.Statistics.{Known, KnownBound}

-- ---- the bytes

-- a count, the highest of its 8 bytes first
abbrev pub count_bytes : ℕ → List ℕ
count_bytes n = big_endian 8 n

-- a count that need not be known
abbrev pub known_count_bytes : Option ℕ → List ℕ
known_count_bytes None = []
known_count_bytes (Some n) = count_bytes n

-- a bound: the key of its content
abbrev pub bound_bytes : Option KnownBound → List ℕ
bound_bytes None = []
bound_bytes (Some b) = key b.value.content

-- 1 if the count is known
abbrev pub count_flag : Option ℕ → ℕ
count_flag None = 0
count_flag (Some n) = 1

-- 1 if the bound is there, and 2 more if it is exact
abbrev pub bound_flags : Option KnownBound → ℕ
bound_flags None = 0
bound_flags (Some b) = if b.is_exact then 3 else 1

-- the byte of flags: one bit for the count of nulls, two for the lower bound, and two for the upper one
abbrev pub flags : Known → ℕ
flags s = count_flag s.null_count + 2 * bound_flags s.lower + 8 * bound_flags s.upper

-- the version, the flags, the counts and the bounds
abbrev pub encoding : Known → List ℕ
encoding s = (1 ∷ flags s ∷ count_bytes s.row_count) ++ (known_count_bytes s.null_count ++ (bound_bytes s.lower ++ bound_bytes s.upper))

-- ---- what has an encoding

-- memory can hold the bound's content
abbrev pub IsHeldBound : Option KnownBound → Type 0
IsHeldBound b = IfSome b (λ b. IsHeld b.value.content)

-- the counts are of 64 bits, and memory can hold the bounds
pub record IsHeldKnown (s : Known) : Type 0 where
  pub rows : s.row_count < 2 ^ 64
  pub nulls : IfSome s.null_count (λ n. n < 2 ^ 64)
  pub lower : IsHeldBound s.lower
  pub upper : IsHeldBound s.upper

-- the cell is a value of the type, in which no variant stands: so it has a key
pub record IsCellOf (t : TypeTree) (x : Cell) : Type 0 where
  pub typed : x.typed ≡ t
  pub ordered : HasNoVariant t
  pub value : RawTree
  pub is_value : IsValueOf t value
  pub is : x.content ≡ content value

-- if the bound is there, it is such a value
abbrev pub IsBoundOf : TypeTree → Option KnownBound → Type 0
IsBoundOf t b = IfSome b (λ b. IsCellOf t b.value)

-- statistics of a column of the type: the counts are of 64 bits, and the bounds are values of the type
pub record AreOf (t : TypeTree) (s : Known) : Type 0 where
  pub rows : s.row_count < 2 ^ 64
  pub nulls : IfSome s.null_count (λ n. n < 2 ^ 64)
  pub lower : IsBoundOf t s.lower
  pub upper : IsBoundOf t s.upper

-- the encoding of these statistics, which are of the type
abbrev pub IsEncodingAs : TypeTree → List ℕ → Known → Type 0
IsEncodingAs t bytes s = AreOf t s × (bytes ≡ encoding s)

-- the encoding of statistics of the type
pub record IsEncodingOf (t : TypeTree) (bytes : List ℕ) : Type 0 where
  pub statistics : Known
  pub of_type : AreOf t statistics
  pub is : bytes ≡ encoding statistics

-- ---- what shares an encoding

-- the two bounds are exact alike and have one content, or neither is there
abbrev pub IsSameBound : Option KnownBound → Option KnownBound → Type 0
IsSameBound None None = Unit {0}
IsSameBound (Some a) (Some b) = (a.is_exact ≡ b.is_exact) × (a.value.content ≡ b.value.content)
IsSameBound _ _ = ⊥

-- the two say the same, whatever the types of their bounds
pub record SaySame (s t : Known) : Type 0 where
  pub rows : s.row_count ≡ t.row_count
  pub nulls : s.null_count ≡ t.null_count
  pub lower : IsSameBound s.lower t.lower
  pub upper : IsSameBound s.upper t.upper

-- no typed child stands in the bound's content
abbrev pub IsUntypedBound : Option KnownBound → Type 0
IsUntypedBound b = IfSome b (λ b. HasNoTyped b.value.content)

-- What begins with the encodings of two statistics has statistics that say the same, and one rest, if no typed child stands in
-- the bounds of one.
abbrev pub EncodingsAreApart : Type 0
EncodingsAreApart = (s t : Known) (xs ys : List ℕ) → IsHeldKnown s → IsHeldKnown t → IsUntypedBound s.lower → IsUntypedBound s.upper → encoding s ++ xs ≡ encoding t ++ ys → SaySame s t × (xs ≡ ys)

-- two statistics of one type that have one encoding are the same
abbrev pub EncodingsTellStatistics : Type 0
EncodingsTellStatistics = (t : TypeTree) (s u : Known) → AreOf t s → AreOf t u → encoding s ≡ encoding u → s ≡ u
