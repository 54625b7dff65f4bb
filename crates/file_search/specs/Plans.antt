-- Plans by the bytes of an index.
use Rattle.std.specs.Prelude.{◌≡◌, ◌≢◌, ◌≤◌, ◌+◌, ◌-◌, ◌^◌, ℕ, List, Bool, Ok, Err, drop, false, filter, length, map, replicate}
use Rattle.record_rows.specs.declared.schema.Schema.{Schema}
use Rattle.vortex_filter.specs.Formula.{Formula}
use Rattle.vortex_filter.specs.Named.{AreMarked}
use Rattle.zone_index.specs.Encoding.{BlockValue, IndexValue, RootValue, zone_values}
use Rattle.zone_index.specs.EncodingReading.{index_at, root_at}
use Rattle.zone_index.specs.declared.encoding.EncodingError.TheVariants.{Short}
use Rattle.zone_index.specs.declared.encoding.ReadError.{ReadError}
use Rattle.zone_index.specs.declared.encoding.ReadError.TheVariants as reads
use Rattle.zone_index.specs.declared.zones.Zone.{Zone}
use Rattle.zone_scans.specs.Planning.{is_read}
use Rattle.zone_scans.specs.Ranges.{AreJoined, IsFarAt, bytes_of}
use Rattle.zone_scans.specs.Wanted.{length_of_blocks, wanted_bytes, wanted_root}
use Rattle.zone_scans.specs.declared.planning.PlannedZone.{PlannedZone}
use Rattle.zone_scans.specs.declared.planning.Purpose.{Purpose}
use Rattle.zone_scans.specs.declared.ranges.ByteRange.{ByteRange}
use Rattle.zone_scans.specs.declared.ranges.RangeError.{RangeError}
use Rattle.zone_scans.specs.declared.ranges.RangeError.TheVariants as ranges
use Rattle.file_search.specs.Sought.{IsSought, IsUnsought, planned_rows}
use Rattle.file_search.specs.declared.index_bytes.PlanError.{PlanError}
use Rattle.file_search.specs.declared.index_bytes.PlanError.TheVariants.{BadBlocks, BadRoot, FarZone, NoMemory, Unsought}
use Rattle.file_search.specs.declared.planning.Plan.{Plan}
use Rattle.file_search.specs.declared.sought.SoughtError.TheVariants as unsought

-- the bytes begin with this root, and the first block begins behind it
pub record IsRead (bytes : List ℕ) (root : RootValue) (start : ℕ) : Type 0 where
  pub rest : List ℕ
  pub is : root_at bytes ≡ Ok (root, rest)
  pub begins : start ≡ length bytes - length rest

-- they begin with none
abbrev pub NotRead : List ℕ → PlanError → Type 0
NotRead bytes NoMemory = Unit {0}
NotRead bytes (BadRoot fault) = root_at bytes ≡ Err fault
NotRead bytes (BadBlocks fault) = ⊥
NotRead bytes (Unsought cause) = ⊥
NotRead bytes (FarZone zone) = ⊥

-- nothing is sought by words over the columns of a setup
abbrev pub NothingIn : ℕ → List ℕ → List ℕ → PlanError → Type 0
NothingIn depth setup words NoMemory = Unit {0}
NothingIn depth setup words (BadRoot fault) = ⊥
NothingIn depth setup words (BadBlocks fault) = ⊥
NothingIn depth setup words (Unsought cause) = IsUnsought depth setup words cause × (cause ≢ unsought.NoMemory)
NothingIn depth setup words (FarZone zone) = ⊥

-- what the words seek in the file of an index that begins so, and which columns they name
pub record IsSearchOf (depth : ℕ) (bytes words : List ℕ) (root : RootValue) (start : ℕ) (schema : Schema) (f : Formula) (named : List Bool) : Type 0 where
  pub read : IsRead bytes root start
  pub sought : IsSought depth root.index.setup words schema f
  pub marked : AreMarked f (replicate (length schema.columns.items) false) named

-- the ranges cover those of the blocks that are of the columns that the formula names
pub record AreNamedBlocks (blocks : List BlockValue) (start : ℕ) (schema : Schema) (f : Formula) (ranges : List ByteRange) : Type 0 where
  pub named : List Bool
  pub marked : AreMarked f (replicate (length schema.columns.items) false) named
  pub covers : (index : List ℕ) → bytes_of index ranges ≡ wanted_bytes named 0 blocks (drop start index)
  pub joined : AreJoined ranges

-- memory ran out, or the blocks end so far that no index is so long
abbrev pub AreFarBlocks : List BlockValue → ℕ → PlanError → Type 0
AreFarBlocks blocks start NoMemory = Unit {0}
AreFarBlocks blocks start (BadRoot fault) = ⊥
AreFarBlocks blocks start (BadBlocks fault) = (fault ≡ Short) × (2 ^ 64 ≤ start + length_of_blocks blocks)
AreFarBlocks blocks start (Unsought cause) = ⊥
AreFarBlocks blocks start (FarZone zone) = ⊥

-- the ranges cover the blocks of the columns that the words name
pub record AreBlocksFor (depth : ℕ) (bytes words : List ℕ) (ranges : List ByteRange) : Type 0 where
  pub root : RootValue
  pub start : ℕ
  pub schema : Schema
  pub f : Formula
  pub read : IsRead bytes root start
  pub sought : IsSought depth root.index.setup words schema f
  pub blocks : AreNamedBlocks root.blocks start schema f ranges

-- the blocks of an index end too far
pub record IsFarIndex (depth : ℕ) (bytes words : List ℕ) (e : PlanError) : Type 0 where
  pub root : RootValue
  pub start : ℕ
  pub schema : Schema
  pub f : Formula
  pub read : IsRead bytes root start
  pub sought : IsSought depth root.index.setup words schema f
  pub far : AreFarBlocks root.blocks start e

-- nothing is sought by the words in the file of an index that begins so
pub record IsNoSearch (depth : ℕ) (bytes words : List ℕ) (e : PlanError) : Type 0 where
  pub root : RootValue
  pub start : ℕ
  pub read : IsRead bytes root start
  pub none : NothingIn depth root.index.setup words e

abbrev pub NoBlocksFor : ℕ → List ℕ → List ℕ → PlanError → Type 0
NoBlocksFor depth bytes words NoMemory = Unit {0}
NoBlocksFor depth bytes words (BadRoot fault) = NotRead bytes (BadRoot fault)
NoBlocksFor depth bytes words (BadBlocks fault) = IsFarIndex depth bytes words (BadBlocks fault)
NoBlocksFor depth bytes words (Unsought cause) = IsNoSearch depth bytes words (Unsought cause)
NoBlocksFor depth bytes words (FarZone zone) = ⊥

-- the zones of an index with the statistics of the columns that the words name
pub record AreZonesOf (root : RootValue) (named : List Bool) (blocks : List ℕ) (zones : List Zone) : Type 0 where
  pub index : IndexValue
  pub read : index_at named (wanted_root named root) blocks ≡ Ok index
  pub are : zone_values zones ≡ index.zones

-- the plan is that of a search for the words by the index
pub record IsPlanFor (depth : ℕ) (bytes blocks words : List ℕ) (purpose : Purpose) (plan : Plan) : Type 0 where
  pub root : RootValue
  pub start : ℕ
  pub schema : Schema
  pub f : Formula
  pub named : List Bool
  pub seeks : IsSearchOf depth bytes words root start schema f named
  pub zones : List Zone
  pub of_index : AreZonesOf root named blocks zones
  pub planned : plan.zones.items ≡ planned_rows schema f zones
  pub covers : (file : List ℕ) → bytes_of file plan.ranges.items ≡ bytes_of file (map (λ (z : PlannedZone). z.range) (filter (is_read purpose) plan.zones.items))
  pub joined : AreJoined plan.ranges.items

-- reading the blocks meets this error
abbrev pub IsBlockFault : RootValue → List Bool → List ℕ → PlanError → Type 0
IsBlockFault root named blocks NoMemory = ⊥
IsBlockFault root named blocks (BadRoot fault) = ⊥
IsBlockFault root named blocks (BadBlocks fault) = index_at named (wanted_root named root) blocks ≡ Err fault
IsBlockFault root named blocks (Unsought cause) = ⊥
IsBlockFault root named blocks (FarZone zone) = ⊥

-- the blocks are not those of the index
pub record AreNoBlocks (depth : ℕ) (bytes blocks words : List ℕ) (e : PlanError) : Type 0 where
  pub root : RootValue
  pub start : ℕ
  pub schema : Schema
  pub f : Formula
  pub named : List Bool
  pub seeks : IsSearchOf depth bytes words root start schema f named
  pub none : IsBlockFault root named blocks e

-- a zone that is to be read ends too far
pub record IsFarPlan (depth : ℕ) (bytes blocks words : List ℕ) (purpose : Purpose) (k : ℕ) : Type 0 where
  pub root : RootValue
  pub start : ℕ
  pub schema : Schema
  pub f : Formula
  pub named : List Bool
  pub seeks : IsSearchOf depth bytes words root start schema f named
  pub zones : List Zone
  pub of_index : AreZonesOf root named blocks zones
  pub far : IsFarAt purpose (planned_rows schema f zones) k

abbrev pub NoPlanFor : ℕ → List ℕ → List ℕ → List ℕ → Purpose → PlanError → Type 0
NoPlanFor depth bytes blocks words purpose NoMemory = Unit {0}
NoPlanFor depth bytes blocks words purpose (BadRoot fault) = NotRead bytes (BadRoot fault)
NoPlanFor depth bytes blocks words purpose (BadBlocks fault) = AreNoBlocks depth bytes blocks words (BadBlocks fault)
NoPlanFor depth bytes blocks words purpose (Unsought cause) = IsNoSearch depth bytes words (Unsought cause)
NoPlanFor depth bytes blocks words purpose (FarZone k) = IsFarPlan depth bytes blocks words purpose k

-- ---- errors

-- the error of blocks that are not read
abbrev pub error_of_blocks : ReadError → PlanError
error_of_blocks reads.Memory = NoMemory
error_of_blocks (reads.Fault fault) = BadBlocks fault

-- the error of zones that are not planned
abbrev pub error_of_ranges : RangeError → PlanError
error_of_ranges ranges.Memory = NoMemory
error_of_ranges (ranges.TooFar zone) = FarZone zone
