-- The statistics of zones in bytes, piece by piece, and what a filter can be by them.
use Rattle.std.specs.Prelude.{◌≡◌, ◌≢◌, ℕ, ◌+◌, ◌*◌, ◌<◌, ◌≤◌, List, [], Option, Some, None, length, slice_index, slice_index_or, slice_range, Contains, if◌then◌else◌}
use Rattle.std.specs.Int.{bit_at}
use Rattle.arrayvec.specs.ArrayVec.{ArrayVec}
use Rattle.vortex_dtype.specs.TypeTree.{TypeTree, null_type}
use Rattle.named_statistics.specs.Heads.{head_of}
use Rattle.named_statistics.specs.Named.{IsBadNamedPiece, SaysNamed}
use Rattle.statistics_bytes.specs.Pieces.{nothing_known}
use Rattle.vortex_cells.specs.Cells.{Cell}
use Rattle.vortex_statistics.specs.Statistics.{AreRight, Known}
use Rattle.vortex_statistics.specs.declared.error.StatisticsError.{StatisticsError}
use Rattle.vortex_statistics.specs.declared.error.StatisticsError.TheVariants as refusals
use Rattle.vortex_filter.specs.Formula.{Formula, truth}
use Rattle.vortex_filter.specs.Named.{IsNamed}
use Rattle.filter_pruning.specs.Outcomes.{outcomes}
use Rattle.filter_pruning.specs.Pruning.{column}
use Rattle.filter_pruning.specs.declared.outcomes.Outcomes.{Outcomes}
use Rattle.vortex_filter.specs.declared.truth.Truth.{Truth}
use Rattle.vortex_filter.specs.declared.truth.Truth.TheVariants.{False, Unknown, True}
use Rattle.column_filters.specs.declared.errors.ZoneError.{ZoneError}
use Rattle.column_filters.specs.declared.errors.ZoneError.TheVariants.{BadBytes, BadOffsets, HasVariant, OutOfMemory, WrongLength}

-- ---- pieces

-- the offsets of a piece go up, and not past the end
abbrev pub IsPiece : List ℕ → List ℕ → ℕ → Type 0
IsPiece bytes offsets p = (slice_index offsets p ≤ slice_index offsets (p + 1)) × (slice_index offsets (p + 1) ≤ length bytes)

-- the bytes of a piece, from its offset to the next one
abbrev pub piece_at : List ℕ → List ℕ → ℕ → List ℕ
piece_at bytes offsets p = slice_range bytes (slice_index offsets p) (slice_index offsets (p + 1))

-- piece p says these statistics of a column of the type
pub record IsSaid (t : TypeTree) (bytes offsets : List ℕ) (p : ℕ) (s : Known) : Type 0 where
  pub piece : IsPiece bytes offsets p
  pub says : SaysNamed t (piece_at bytes offsets p) s

-- of so many pieces, from p on, each of a column that the formula names says these statistics of the column
abbrev pub AreSaid : Formula → List TypeTree → List ℕ → List ℕ → ℕ → ℕ → List Known → Type 0
AreSaid f types bytes offsets p count statistics = (k : ℕ) → k < count → IsNamed f k → IsSaid (slice_index_or types k null_type) bytes offsets (p + k) (slice_index_or statistics k nothing_known)

-- nothing is known of a column that the formula does not name
abbrev pub AreOthersOpen : Formula → List Known → Type 0
AreOthersOpen f statistics = (k : ℕ) → ¬ (IsNamed f k) → slice_index_or statistics k nothing_known ≡ nothing_known

-- What is known of so many columns of a zone, whose pieces are those from p on: what the piece of each column that the
-- formula names says, and nothing of the others, whatever their pieces are.
pub record AreKnown (f : Formula) (types : List TypeTree) (bytes offsets : List ℕ) (p count : ℕ) (statistics : List Known) : Type 0 where
  pub all : length statistics ≡ count
  pub said : AreSaid f types bytes offsets p count statistics
  pub others : AreOthersOpen f statistics

-- what stands before the statistics of the column at place k, if the formula names the column
abbrev pub IsHeadAt : Formula → List TypeTree → ℕ → Option (ArrayVec ℕ) → Type 0
IsHeadAt f types k None = ¬ (IsNamed f k)
IsHeadAt f types k (Some head) = IsNamed f k × (head.items ≡ head_of (slice_index_or types k null_type))

-- the same of each column
pub record AreHeads (f : Formula) (types : List TypeTree) (heads : List (Option (ArrayVec ℕ))) : Type 0 where
  pub all : length heads ≡ length types
  pub each : (k : ℕ) → k < length types → IsHeadAt f types k (slice_index_or heads k None)

-- ---- outcomes

-- 1 if it can be False, 2 if it can be Unknown, and 4 if it can be True, added up
abbrev pub outcomes_byte : Outcomes → ℕ
outcomes_byte o = (if o.may_be_false then 1 else 0) + (if o.may_be_unknown then 2 else 0) + (if o.may_be_true then 4 else 0)

-- the byte says what the formula can be on the rows of a zone, of whose columns the pieces from p on speak
pub record IsOutcome (f : Formula) (types : List TypeTree) (bytes offsets : List ℕ) (p byte : ℕ) : Type 0 where
  pub statistics : List Known
  pub are_known : AreKnown f types bytes offsets p (length types) statistics
  pub is : byte ≡ outcomes_byte (outcomes f statistics)

-- as many offsets as pieces, and one more
abbrev pub AreEnough : ℕ → ℕ → ℕ → Type 0
AreEnough zones columns offsets = offsets ≡ zones * columns + 1

-- there is a piece for each column of each zone, and the bytes say what the formula can be on the rows of the zones
pub record AreOutcomes (f : Formula) (types : List TypeTree) (bytes offsets done : List ℕ) : Type 0 where
  pub enough : AreEnough (length done) (length types) (length offsets)
  pub each : (zone : ℕ) → zone < length done → IsOutcome f types bytes offsets (zone * length types) (slice_index done zone)

-- ---- refusals

-- the error of a piece that is refused so
abbrev pub fault_of_piece : ℕ → StatisticsError → ZoneError
fault_of_piece piece (refusals.BadBytes place) = BadBytes piece place
fault_of_piece piece refusals.HasVariant = HasVariant piece
fault_of_piece piece refusals.OutOfMemory = OutOfMemory
fault_of_piece piece refusals.TooManyRows = OutOfMemory

-- why piece p says nothing of a column of the type
abbrev pub IsBadAt : TypeTree → List ℕ → List ℕ → ℕ → ZoneError → Type 0
IsBadAt t bytes offsets p OutOfMemory = IsPiece bytes offsets p × IsBadNamedPiece t (piece_at bytes offsets p) refusals.OutOfMemory
IsBadAt t bytes offsets p WrongLength = ⊥
IsBadAt t bytes offsets p (BadOffsets piece) = (piece ≡ p) × ¬ (IsPiece bytes offsets p)
IsBadAt t bytes offsets p (BadBytes piece place) = (piece ≡ p) × IsPiece bytes offsets p × IsBadNamedPiece t (piece_at bytes offsets p) (refusals.BadBytes place)
IsBadAt t bytes offsets p (HasVariant piece) = (piece ≡ p) × IsPiece bytes offsets p × IsBadNamedPiece t (piece_at bytes offsets p) refusals.HasVariant

-- of so many pieces, from p on, each of a column that the formula names says something
abbrev pub AreSaidBefore : Formula → List TypeTree → List ℕ → List ℕ → ℕ → ℕ → Type 0
AreSaidBefore f types bytes offsets p count = (k : ℕ) → k < count → IsNamed f k → (s : Known) × IsSaid (slice_index_or types k null_type) bytes offsets (p + k) s

-- why a zone is refused, whose pieces are those from p on: the first of a named column that says nothing of it
pub record RefusesZone (f : Formula) (types : List TypeTree) (bytes offsets : List ℕ) (p : ℕ) (e : ZoneError) : Type 0 where
  pub column : ℕ
  pub within : column < length types
  pub is_named : IsNamed f column
  pub before : AreSaidBefore f types bytes offsets p column
  pub cause : IsBadAt (slice_index_or types column null_type) bytes offsets (p + column) e

-- the first zone that is refused
pub record IsBadOfZones (f : Formula) (types : List TypeTree) (bytes offsets : List ℕ) (zones : ℕ) (e : ZoneError) : Type 0 where
  pub zone : ℕ
  pub within : zone < zones
  pub before : (z : ℕ) → z < zone → AreSaidBefore f types bytes offsets (z * length types) (length types)
  pub cause : RefusesZone f types bytes offsets (zone * length types) e

-- why so many zones are refused. Memory is asked for each column, if there are enough pieces, and then by a piece.
abbrev pub RefusesZones : Formula → List TypeTree → List ℕ → List ℕ → ℕ → ZoneError → Type 0
RefusesZones f types bytes offsets zones OutOfMemory = AreEnough zones (length types) (length offsets)
RefusesZones f types bytes offsets zones WrongLength = ¬ (AreEnough zones (length types) (length offsets))
RefusesZones f types bytes offsets zones e = AreEnough zones (length types) (length offsets) × IsBadOfZones f types bytes offsets zones e

-- ---- what the byte of a zone promises

-- What the pieces from p on say is right for the rows of a zone, as far as the formula names their columns. A piece
-- without bytes says nothing.
abbrev pub ArePiecesRight : Formula → List TypeTree → List ℕ → List ℕ → ℕ → List (List Cell) → Type 0
ArePiecesRight f types bytes offsets p rows =
    (k : ℕ) (s : Known) → IsNamed f k → k < length types → piece_at bytes offsets (p + k) ≢ [] → IsSaid (slice_index_or types k null_type) bytes offsets (p + k) s → AreRight s (column k rows)

-- the truth is one of those in the byte
abbrev pub IsAmong : ℕ → Truth → Type 0
IsAmong byte False = bit_at byte 0 ≡ 1
IsAmong byte Unknown = bit_at byte 1 ≡ 1
IsAmong byte True = bit_at byte 2 ≡ 1

-- Let what the pieces of the named columns say be right for the rows of a zone. Then the truth of each row is among those
-- in the zone's byte, whatever the cells of columns without bytes, and whatever the pieces of other columns.
abbrev pub OutcomesCoverRows : Type 0
OutcomesCoverRows = (f : Formula) (types : List TypeTree) (bytes offsets : List ℕ) (p byte : ℕ) → IsOutcome f types bytes offsets p byte
    → (rows : List (List Cell)) → ArePiecesRight f types bytes offsets p rows → (row : List Cell) → Contains rows row → IsAmong byte (truth f row)

-- The byte of a zone is that of all statistics that its pieces say of the named columns, whatever they say of the
-- others.
abbrev pub NamedPiecesDecide : Type 0
NamedPiecesDecide = (f : Formula) (types : List TypeTree) (bytes offsets : List ℕ) (p byte : ℕ) → IsOutcome f types bytes offsets p byte
    → (statistics : List Known) → length statistics ≡ length types → AreSaid f types bytes offsets p (length types) statistics → byte ≡ outcomes_byte (outcomes f statistics)
