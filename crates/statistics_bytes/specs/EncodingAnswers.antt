-- What reading an encoding answers: the statistics that were written, or the first byte that no encoding has there.
use Rattle.std.specs.Prelude.{◌≡◌, ◌⊎◌, ℕ, suc, ◌<◌, ◌≤◌, List, ◌∷◌, ◌++◌, length, map, take, IfSome, IsSome, Result, MatchResult}
use Rattle.vortex_dtype.specs.TypeTree.{Same, TypeTree}
use Rattle.vortex_value.specs.TypesWithin.{HasNoVariant}
use Rattle.vortex_value.specs.Values.RawTree.{RawTree}
use Rattle.vortex_row.specs.Decoded.{IsValueOf}
use Rattle.vortex_cells.specs.Cells.{Cell}
use Rattle.statistics_bytes.specs.Encoding.{IsEncodingOf, IsHeldKnown, flags, encoding}
use Rattle.vortex_statistics.specs.Statistics.{AreComplete, AreRight, Known, known}
use Rattle.vortex_statistics.specs.declared.column_statistics.ColumnStatistics.{ColumnStatistics}
use Rattle.vortex_statistics.specs.declared.error.StatisticsError.{StatisticsError}
use Rattle.vortex_statistics.specs.declared.error.StatisticsError.TheVariants.{BadBytes, HasVariant, OutOfMemory, TooManyRows}

-- ---- bytes that are refused

-- some bytes that begin with these are one of the strings
pub record MayGoOn (IsOne : List ℕ → Type 0) (bytes : List ℕ) : Type 0 where
  pub more : List ℕ
  pub is_one : IsOne (bytes ++ more)

-- The bytes are none of the strings, and this is the offset of the first byte that none has: those before may begin one, if
-- the types have values, and with it they may not. If the bytes end too early, it is the offset after them.
pub record IsFirstWrong (IsOne : List ℕ → Type 0) (has_values : Type 0) (bytes : List ℕ) (place : ℕ) : Type 0 where
  pub within : place ≤ length bytes
  pub before : has_values → MayGoOn IsOne (take place bytes)
  pub wrong : place < length bytes → ¬ (MayGoOn IsOne (take (suc place) bytes))
  pub none : ¬ (IsOne bytes)

-- there is a bound
abbrev pub HasBound : Known → Type 0
HasBound s = IsSome s.lower ⊎ IsSome s.upper

-- the bytes begin with the version and with flags that say a bound
pub record SaysBound (bytes : List ℕ) : Type 0 where
  pub statistics : Known
  pub bound : HasBound statistics
  pub rest : List ℕ
  pub is : bytes ≡ 1 ∷ flags statistics ∷ rest

-- memory can hold a value of the type
pub record HasValues (t : TypeTree) : Type 0 where
  pub value : RawTree
  pub is_value : IsValueOf t value

-- the bytes say a bound of a type in which a variant stands
abbrev pub SayVariant : TypeTree → List ℕ → Type 0
SayVariant t bytes = (¬ (HasNoVariant t)) × SaysBound bytes

-- Why no statistics of the type are read. If the bytes say a bound of a type with a variant, just that. Else there is no
-- memory, which a bound alone takes, or this is the first wrong byte.
abbrev pub IsBadEncoding : TypeTree → List ℕ → StatisticsError → Type 0
IsBadEncoding t bytes HasVariant = SayVariant t bytes
IsBadEncoding t bytes OutOfMemory = (¬ (SayVariant t bytes)) × SaysBound bytes
IsBadEncoding t bytes TooManyRows = ⊥
IsBadEncoding t bytes (BadBytes place) = (¬ (SayVariant t bytes)) × IsFirstWrong (IsEncodingOf t) (SaysBound bytes → HasValues t) bytes place

-- ---- what is read

-- exactly these statistics are read, or there is no memory
abbrev pub ReadsAs : Known → Result ColumnStatistics StatisticsError → Type 0
ReadsAs s r = MatchResult r (λ t. known t ≡ s) (λ e. e ≡ OutOfMemory)

-- the same of statistics that stand already, and now say this
abbrev pub ReadsInto : Known → Known → Result Unit StatisticsError → Type 0
ReadsInto s now r = MatchResult r (λ u. now ≡ s) (λ e. e ≡ OutOfMemory)

-- the cell with its content as one of the type
abbrev pub retyped : TypeTree → Cell → Cell
retyped t x = record { typed = t; content = x.content }

-- the types of the bounds are this one, up to nullability
pub record AreTyped (t : TypeTree) (s : Known) : Type 0 where
  pub lower : IfSome s.lower (λ b. Same b.value.typed t)
  pub upper : IfSome s.upper (λ b. Same b.value.typed t)

-- What is read of the bytes is right for all that the written statistics were right for, whatever the type of their bounds:
-- for the same contents as cells of the type. And for the same cells, if it is that type up to nullability.
pub record ReadsRight (t : TypeTree) (bytes : List ℕ) (r : Known) : Type 0 where
  pub contents : (s : Known) (cells : List Cell) → IsHeldKnown s → bytes ≡ encoding s → AreRight s cells → AreRight r (map (retyped t) cells)
  pub cells : (s : Known) (cells : List Cell) → IsHeldKnown s → bytes ≡ encoding s → AreTyped t s → AreRight s cells → AreRight r cells
  pub complete : (s : Known) (cells : List Cell) → IsHeldKnown s → bytes ≡ encoding s → AreTyped t s → AreComplete s cells → AreComplete r cells
