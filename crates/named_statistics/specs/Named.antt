-- Statistics in bytes that name a logical type.
use Rattle.std.specs.Prelude.{◌≡◌, ◌≢◌, ℕ, ◌+◌, ◌<◌, ◌≤◌, ◌^◌, List, [], ◌∷◌, ◌++◌, length, map, slice_index, take}
use Rattle.vortex_cells.specs.Cells.{Cell}
use Rattle.vortex_dtype.specs.TypeTree.{TypeTree}
use Rattle.vortex_value.specs.TypesWithin.{HasNoVariant}
use Rattle.vortex_statistics.specs.Statistics.{AreComplete, AreRight, Known}
use Rattle.vortex_statistics.specs.declared.error.StatisticsError.{StatisticsError}
use Rattle.vortex_statistics.specs.declared.error.StatisticsError.TheVariants.{BadBytes, HasVariant, OutOfMemory, TooManyRows}
use Rattle.statistics_bytes.specs.Encoding.{AreOf, IsHeldKnown, encoding}
use Rattle.statistics_bytes.specs.EncodingAnswers.{AreTyped, HasValues, IsFirstWrong, SaysBound, retyped}
use Rattle.statistics_bytes.specs.Pieces.{nothing_known}
use Rattle.named_statistics.specs.Heads.{head_of}

-- ---- the bytes

-- the statistics of a column of the type: those of a logical type begin with its name
abbrev pub named_encoding : TypeTree → Known → List ℕ
named_encoding t s = head_of t ++ encoding s

-- the bytes of these statistics, which are of the type
abbrev pub IsNamedEncodingAs : TypeTree → List ℕ → Known → Type 0
IsNamedEncodingAs t bytes s = AreOf t s × (bytes ≡ named_encoding t s)

-- the bytes of statistics of the type
pub record IsNamedEncodingOf (t : TypeTree) (bytes : List ℕ) : Type 0 where
  pub statistics : Known
  pub of_type : AreOf t statistics
  pub is : bytes ≡ named_encoding t statistics

-- the bytes begin with the name of the type, and then with flags that say a bound
pub record SaysNamedBound (t : TypeTree) (bytes : List ℕ) : Type 0 where
  pub rest : List ℕ
  pub is : bytes ≡ head_of t ++ rest
  pub says : SaysBound rest

-- they say a bound of a type in which a variant stands
abbrev pub SaysNamedVariant : TypeTree → List ℕ → Type 0
SaysNamedVariant t bytes = (¬ (HasNoVariant t)) × SaysNamedBound t bytes

-- ---- what is read

-- What is read of the bytes is right for all that the written statistics were right for, whatever type they were written as
-- of: for the same contents as cells of the type. And for the same cells, if it is the type of their bounds up to nullability.
pub record ReadsNamed (t : TypeTree) (bytes : List ℕ) (r : Known) : Type 0 where
  pub contents : (u : TypeTree) (s : Known) (cells : List Cell) → IsHeldKnown s → bytes ≡ named_encoding u s → AreRight s cells → AreRight r (map (retyped t) cells)
  pub cells : (u : TypeTree) (s : Known) (cells : List Cell) → IsHeldKnown s → bytes ≡ named_encoding u s → AreTyped t s → AreRight s cells → AreRight r cells
  pub complete : (u : TypeTree) (s : Known) (cells : List Cell) → IsHeldKnown s → bytes ≡ named_encoding u s → AreTyped t s → AreComplete s cells → AreComplete r cells

-- what a piece says of a column of the type: nothing if it is empty, and else the statistics whose bytes it is
abbrev pub SaysNamed : TypeTree → List ℕ → Known → Type 0
SaysNamed t [] s = s ≡ nothing_known
SaysNamed t (b ∷ bytes) s = IsNamedEncodingAs t (b ∷ bytes) s

-- ---- why nothing is read

-- this is the first byte that differs from the head, or the bytes end there
pub record IsWrongHead (head bytes : List ℕ) (place : ℕ) : Type 0 where
  pub within : place < length head
  pub ends : place ≤ length bytes
  pub same : take place bytes ≡ take place head
  pub differs : place < length bytes → slice_index bytes place ≢ slice_index head place

-- the refusal of bytes that begin at the offset start, as one of the whole
abbrev pub refusal_from : ℕ → StatisticsError → StatisticsError
refusal_from start (BadBytes place) = BadBytes (start + place)
refusal_from start OutOfMemory = OutOfMemory
refusal_from start HasVariant = HasVariant
refusal_from start TooManyRows = TooManyRows

-- an offset that it has is one of the whole
abbrev pub IsOffsetWithin : ℕ → StatisticsError → Type 0
IsOffsetWithin start (BadBytes place) = start + place < 2 ^ 64
IsOffsetWithin start _ = Unit {0}

-- the bytes are those of no statistics of the type, and this is the offset of the first byte that none has there
abbrev pub IsWrongAt : TypeTree → List ℕ → ℕ → Type 0
IsWrongAt t bytes place = IsFirstWrong (IsNamedEncodingOf t) (SaysNamedBound t bytes → HasValues t) bytes place

-- why no statistics of the type are read, as of statistics that name no type
abbrev pub IsBadNamedEncoding : TypeTree → List ℕ → StatisticsError → Type 0
IsBadNamedEncoding t bytes HasVariant = SaysNamedVariant t bytes
IsBadNamedEncoding t bytes OutOfMemory = (¬ (SaysNamedVariant t bytes)) × SaysNamedBound t bytes
IsBadNamedEncoding t bytes TooManyRows = ⊥
IsBadNamedEncoding t bytes (BadBytes place) = (¬ (SaysNamedVariant t bytes)) × IsWrongAt t bytes place

-- why a piece says nothing of a column of the type: it has bytes, which are those of no statistics
abbrev pub IsBadNamedPiece : TypeTree → List ℕ → StatisticsError → Type 0
IsBadNamedPiece t piece e = (piece ≢ []) × IsBadNamedEncoding t piece e
