-- What is sought, and why nothing is.
use Rattle.std.proofs.Common.{◌≡◌, ◌≢◌, ◌≤◌, ◌+◌, ◌^◌, ℕ, List, Bool, Err, Ok, Result, subst}
use Rattle.std.specs.Global.{Global}
use Rattle.std.specs.Prelude.{IfErr, IfOk, IsUtf8, Vec}
use Rattle.csv_columns.specs.declared.setup.Setup.{Setup}
use Rattle.filter_sql.specs.ColumnNames.{ColumnTree}
use Rattle.record_rows.specs.declared.schema.Schema.{Schema}
use Rattle.vortex_filter.specs.Formula.{Formula}
use Rattle.zone_index.specs.Encoding.{BlockValue, RootValue}
use Rattle.zone_index.specs.EncodingReading.{Fails, index_at}
use Rattle.zone_index.specs.declared.encoding.EncodingError.{EncodingError}
use Rattle.zone_index.specs.declared.encoding.EncodingError.TheVariants.{Short}
use Rattle.zone_index.specs.declared.encoding.ReadError.{ReadError}
use Rattle.zone_index.specs.declared.encoding.ReadError.TheVariants as reads
use Rattle.zone_scans.specs.Ranges.{IsFarZone}
use Rattle.zone_scans.specs.Wanted.{length_of_blocks, wanted_root}
use Rattle.zone_scans.specs.declared.planning.Purpose.{Purpose}
use Rattle.zone_scans.specs.declared.ranges.ByteRange.{ByteRange}
use Rattle.zone_scans.specs.declared.ranges.RangeError.{RangeError}
use Rattle.zone_scans.specs.declared.ranges.RangeError.TheVariants as ranges
use Rattle.zone_index.specs.declared.zones.Zone.{Zone}
use Rattle.file_search.specs.Plans.{AreBlocksFor, AreFarBlocks, AreNamedBlocks, AreZonesOf, IsRead, IsSearchOf, NoBlocksFor, NoPlanFor, error_of_blocks, error_of_ranges}
use Rattle.file_search.specs.Sought.{IsSetupOf, IsSought, IsUnsought, NoFilterFor, planned_rows, trees_of_named}
use Rattle.file_search.specs.declared.index_bytes.PlanError.{PlanError}
use Rattle.file_search.specs.declared.index_bytes.PlanError.TheVariants as plans
use Rattle.file_search.specs.declared.sought.SoughtError.{SoughtError}
use Rattle.file_search.specs.declared.sought.SoughtError.TheVariants as soughts

-- words that are no filter
pub unsought_of : (depth : ℕ) (text words : List ℕ) (setup : Setup) (trees : List ColumnTree) (e : SoughtError) → IsSetupOf text setup → trees ≡ trees_of_named setup.columns.items → IsUtf8 words → NoFilterFor depth trees words e → IsUnsought depth text words e
unsought_of depth text words setup trees soughts.NoMemory is same utf8 h = utf8
unsought_of depth text words setup trees soughts.NoSetup is same utf8 h = absurd h
unsought_of depth text words setup trees soughts.NotUtf8 is same utf8 h = absurd h
unsought_of depth text words setup trees (soughts.NoFilter cause) is same utf8 h = record { setup = setup; is = is; none = subst (λ (ts : List ColumnTree). NoFilterFor depth ts words (soughts.NoFilter cause)) same h }

-- blocks that end too far
pub far_blocks : (blocks : List BlockValue) (start : ℕ) (e : ReadError) → (e ≢ reads.Memory → (e ≡ reads.Fault Short) × (2 ^ 64 ≤ start + length_of_blocks blocks)) → AreFarBlocks blocks start (error_of_blocks e)
far_blocks blocks start reads.Memory h = tt
far_blocks blocks start (reads.Fault fault) h =
    let far = h (λ q. cc) in
    (short fault far.0, far.1)
  where
    short : (x : EncodingError) → reads.Fault x ≡ reads.Fault Short → x ≡ Short
    short x q = cc

-- those of an index
pub far_index : (depth : ℕ) (bytes words : List ℕ) (root : RootValue) (start : ℕ) (schema : Schema) (f : Formula) (e : PlanError) → IsRead bytes root start → IsSought depth root.index.setup words schema f → AreFarBlocks root.blocks start e → NoBlocksFor depth bytes words e
far_index depth bytes words root start schema f plans.NoMemory read sought h = tt
far_index depth bytes words root start schema f (plans.BadRoot fault) read sought h = absurd h
far_index depth bytes words root start schema f (plans.BadBlocks fault) read sought h = record { root = root; start = start; schema = schema; f = f; read = read; sought = sought; far = h }
far_index depth bytes words root start schema f (plans.Unsought cause) read sought h = absurd h
far_index depth bytes words root start schema f (plans.FarZone zone) read sought h = absurd h

pub far_all : {X : Type 0} (depth : ℕ) (bytes words : List ℕ) (root : RootValue) (start : ℕ) (schema : Schema) (f : Formula) (r : Result X PlanError) → IsRead bytes root start → IsSought depth root.index.setup words schema f → IfErr r (AreFarBlocks root.blocks start) → IfErr r (NoBlocksFor depth bytes words)
far_all depth bytes words root start schema f (Ok x) read sought h = tt
far_all depth bytes words root start schema f (Err e) read sought h = far_index depth bytes words root start schema f e read sought h

pub named_all : (depth : ℕ) (bytes words : List ℕ) (root : RootValue) (start : ℕ) (schema : Schema) (f : Formula) (r : Result (Vec ByteRange Global) PlanError) → IsRead bytes root start → IsSought depth root.index.setup words schema f → IfOk r (λ ranges. AreNamedBlocks root.blocks start schema f ranges.items) → IfOk r (λ ranges. AreBlocksFor depth bytes words ranges.items)
named_all depth bytes words root start schema f (Ok ranges) read sought h = record { root = root; start = start; schema = schema; f = f; read = read; sought = sought; blocks = h }
named_all depth bytes words root start schema f (Err e) read sought h = tt

-- blocks that are not read
pub no_blocks : (depth : ℕ) (bytes blocks words : List ℕ) (purpose : Purpose) (root : RootValue) (start : ℕ) (schema : Schema) (f : Formula) (named : List Bool) (e : ReadError) → IsSearchOf depth bytes words root start schema f named → Fails e (index_at named (wanted_root named root) blocks)
    → NoPlanFor depth bytes blocks words purpose (error_of_blocks e)
no_blocks depth bytes blocks words purpose root start schema f named reads.Memory seeks h = tt
no_blocks depth bytes blocks words purpose root start schema f named (reads.Fault fault) seeks h = record { root = root; start = start; schema = schema; f = f; named = named; seeks = seeks; none = h }

-- zones that end too far
pub far_plan : (depth : ℕ) (bytes blocks words : List ℕ) (purpose : Purpose) (root : RootValue) (start : ℕ) (schema : Schema) (f : Formula) (named : List Bool) (zones : List Zone) (e : RangeError) → IsSearchOf depth bytes words root start schema f named → AreZonesOf root named blocks zones → IsFarZone purpose (planned_rows schema f zones) e
    → NoPlanFor depth bytes blocks words purpose (error_of_ranges e)
far_plan depth bytes blocks words purpose root start schema f named zones ranges.Memory seeks of_index h = tt
far_plan depth bytes blocks words purpose root start schema f named zones (ranges.TooFar k) seeks of_index h = record { root = root; start = start; schema = schema; f = f; named = named; seeks = seeks; zones = zones; of_index = of_index; far = h }
