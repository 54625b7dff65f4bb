-- What the steps of writing and of reading an encoding answer.
use Rattle.std.specs.Prelude.{◌≡◌, ◌≢◌, ◌⊎◌, ℕ, ◌+◌, ◌*◌, ◌<◌, ◌≤◌, ◌^◌, Bool, true, false, List, [], ◌∷◌, ◌++◌, drop, length, Option, Some, None, IfSome, is_some}
use Rattle.vortex_dtype.specs.TypeTree.{TypeTree}
use Rattle.vortex_value.specs.TypesWithin.{HasNoVariant}
use Rattle.vortex_row.specs.Decoded.{IsFirstBad, IsKeyOf}
use Rattle.vortex_row.specs.Typed.{HasKey}
use Rattle.vortex_row.specs.declared.options.SortOptions.{SortOptions}
use Rattle.statistics_bytes.specs.Encoding.{IsBoundOf, bound_bytes, count_bytes, known_count_bytes}
use Rattle.statistics_bytes.specs.EncodingAnswers.{IsFirstWrong}
use Rattle.vortex_statistics.specs.Statistics.{Known, KnownBound}
use Rattle.vortex_statistics.specs.declared.error.StatisticsError.{StatisticsError}
use Rattle.vortex_statistics.specs.declared.error.StatisticsError.TheVariants.{BadBytes, OutOfMemory}
use Rattle.statistics_bytes.specs.declared.flags.BoundState.{BoundState}
use Rattle.statistics_bytes.specs.declared.flags.BoundState.TheVariants.{Missing, Inexact, Exact}
use Rattle.statistics_bytes.specs.declared.flags.Flags.{Flags}

-- ---- flags

-- the two bits of a bound
abbrev pub state_bits : BoundState → ℕ
state_bits Missing = 0
state_bits Inexact = 1
state_bits Exact = 3

abbrev pub flag_bit : Bool → ℕ
flag_bit true = 1
flag_bit false = 0

-- the byte that says these flags
abbrev pub flags_byte : Flags → ℕ
flags_byte f = flag_bit f.has_null_count + 2 * state_bits f.lower + 8 * state_bits f.upper

-- the state of a bound that is there
abbrev pub state_at : Bool → BoundState
state_at true = Exact
state_at false = Inexact

abbrev pub state_of : Option KnownBound → BoundState
state_of None = Missing
state_of (Some b) = state_at b.is_exact

-- the flags of statistics
abbrev pub flags_of : Known → Flags
flags_of s = record { has_null_count = is_some s.null_count; lower = state_of s.lower; upper = state_of s.upper }

abbrev pub is_there : BoundState → Bool
is_there Missing = false
is_there _ = true

-- whether there is one of two bounds
abbrev pub either_there : BoundState → BoundState → Bool
either_there Missing Missing = false
either_there _ _ = true

-- whether they say that there is a bound
abbrev pub has_bound : Flags → Bool
has_bound f = either_there f.lower f.upper

-- the first byte that is wrong is the version, or that of the flags
abbrev pub IsWrongStart : List ℕ → ℕ → Type 0
IsWrongStart bytes place = ((place ≡ 0) × ((rest : List ℕ) → bytes ≢ 1 ∷ rest))
    ⊎ ((place ≡ 1) × ((rest : List ℕ) × (bytes ≡ 1 ∷ rest) × ((f : Flags) (more : List ℕ) → rest ≢ flags_byte f ∷ more)))

-- ---- counts

-- the counts of the encoding, of which that of nulls is known or not
pub record IsCountsRead (has_null_count : Bool) (rows : ℕ) (nulls : Option ℕ) (old now : List ℕ) : Type 0 where
  pub rows_fit : rows < 2 ^ 64
  pub nulls_fit : IfSome nulls (λ n. n < 2 ^ 64)
  pub known : is_some nulls ≡ has_null_count
  pub is : old ≡ count_bytes rows ++ (known_count_bytes nulls ++ now)

-- how many bytes the counts have
abbrev pub counts_length : Bool → ℕ
counts_length true = 16
counts_length false = 8

-- ---- bounds

-- how columns are sorted by default
abbrev pub ascending : SortOptions
ascending = record { descending = false; nulls_first = true }

-- no variant stands in the type or in the content of the bound, if it is there
abbrev pub HasNoVariantIn : Option KnownBound → Type 0
HasNoVariantIn b = IfSome b (λ b. HasKey b.value.typed b.value.content)

-- nor in those of either bound
pub record HasNoVariants (s : Known) : Type 0 where
  pub lower : HasNoVariantIn s.lower
  pub upper : HasNoVariantIn s.upper

-- the key of a value of the type, in which no variant stands
pub record IsKeyIn (t : TypeTree) (bytes : List ℕ) : Type 0 where
  pub ordered : HasNoVariant t
  pub key : IsKeyOf ascending t bytes

-- what a bound in this state has: a key, or nothing
abbrev pub IsBoundKey : TypeTree → BoundState → List ℕ → Type 0
IsBoundKey t Missing bytes = bytes ≡ []
IsBoundKey t _ bytes = IsKeyIn t bytes

-- what two bounds have, one after the other
pub record AreBoundKeys (t : TypeTree) (lower upper : BoundState) (bytes : List ℕ) : Type 0 where
  pub first : List ℕ
  pub second : List ℕ
  pub is_lower : IsBoundKey t lower first
  pub is_upper : IsBoundKey t upper second
  pub is : bytes ≡ first ++ second

-- a bound in this state was read, of a value of the type
pub record IsBoundRead (t : TypeTree) (state : BoundState) (b : Option KnownBound) (old now : List ℕ) : Type 0 where
  pub of_type : IsBoundOf t b
  pub state_is : state_of b ≡ state
  pub is : old ≡ bound_bytes b ++ now

-- the same, from an offset of the bytes to the next one
pub record IsBoundReadAt (t : TypeTree) (state : BoundState) (b : Option KnownBound) (bytes : List ℕ) (place next : ℕ) : Type 0 where
  pub within : next ≤ length bytes
  pub after : next ≡ place + length (bound_bytes b)
  pub bound : IsBoundRead t state b (drop place bytes) (drop next bytes)

-- both bounds were read, and no byte is left
pub record AreBoundsRead (t : TypeTree) (flags : Flags) (lower upper : Option KnownBound) (bytes : List ℕ) : Type 0 where
  pub lower_of_type : IsBoundOf t lower
  pub upper_of_type : IsBoundOf t upper
  pub lower_state : state_of lower ≡ flags.lower
  pub upper_state : state_of upper ≡ flags.upper
  pub is : bytes ≡ bound_bytes lower ++ bound_bytes upper

-- why no key was read of a bound that is there: there is no memory, or the offset after start where no key goes on
abbrev pub IsBadBound : TypeTree → BoundState → ℕ → List ℕ → StatisticsError → Type 0
IsBadBound t state start old e = ((e ≡ OutOfMemory) × (is_there state ≡ true))
    ⊎ ((place : ℕ) × (e ≡ BadBytes (start + place)) × (is_there state ≡ true) × IsFirstBad (IsKeyOf ascending t) old place)

-- why bytes are refused that should be one of the strings: there is no memory, which some take, or the offset after start of
-- the first wrong byte
abbrev pub IsRefusal : (List ℕ → Type 0) → Type 0 → Type 0 → ℕ → List ℕ → StatisticsError → Type 0
IsRefusal Is may_take has_values start bytes e = ((e ≡ OutOfMemory) × may_take) ⊎ ((place : ℕ) × (e ≡ BadBytes (start + place)) × IsFirstWrong Is has_values bytes place)
