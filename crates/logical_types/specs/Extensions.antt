-- Logical types as extensions: an id, metadata and a storage.
use mir.Syntax.{w128, w32, w64}
use Rattle.std.specs.Prelude.{◌≡◌, ◌<◌, ◌+◌, ◌*◌, ℕ, ℤ, FitsSigned, List, [], ◌∷◌, true, false, codes, length, nat_le, if◌then◌else◌}
use Rattle.logical_types.specs.declared.times.TimeUnit.{TimeUnit}
use Rattle.logical_types.specs.declared.times.TimeUnit.TheVariants.{Seconds, Milliseconds, Microseconds, Nanoseconds}
use Rattle.logical_types.specs.declared.logical.LogicalType.{LogicalType}
use Rattle.logical_types.specs.declared.logical.LogicalType.TheVariants.{Float64, Float32, Decimal, Date, Time, Timestamp}
use Rattle.logical_types.specs.declared.extensions.StorageType.{StorageType}
use Rattle.logical_types.specs.declared.extensions.StorageType.TheVariants.{I32, I64, Bytes}

-- the id of the extension
abbrev pub id_of : LogicalType → List ℕ
id_of Float64 = codes "doqallin.f64"
id_of Float32 = codes "doqallin.f32"
id_of (Decimal d) = codes "doqallin.decimal"
id_of Date = codes "vortex.date"
id_of (Time unit) = codes "vortex.time"
id_of (Timestamp unit is_zoned) = codes "vortex.timestamp"

-- the byte of a unit; 4 stands for days
abbrev pub unit_byte : TimeUnit → ℕ
unit_byte Nanoseconds = 0
unit_byte Microseconds = 1
unit_byte Milliseconds = 2
unit_byte Seconds = 3

-- the metadata: a precision and a scale, or a unit, and of timestamps the length of a zone's name in two bytes, low byte first, and the name
abbrev pub metadata_of : LogicalType → List ℕ
metadata_of Float64 = []
metadata_of Float32 = []
metadata_of (Decimal d) = d.precision ∷ d.scale ∷ []
metadata_of Date = 4 ∷ []
metadata_of (Time unit) = unit_byte unit ∷ []
metadata_of (Timestamp unit false) = unit_byte unit ∷ 0 ∷ 0 ∷ []
metadata_of (Timestamp unit true) = unit_byte unit ∷ 3 ∷ 0 ∷ codes "UTC"

-- metadata with the name of some zone
pub record HasZone (unit : TimeUnit) (metadata : List ℕ) : Type 0 where
  pub low : ℕ
  pub high : ℕ
  pub name : List ℕ
  pub parts : metadata ≡ unit_byte unit ∷ low ∷ high ∷ name
  pub size : length name ≡ low + 256 * high
  pub some : 0 < length name

-- metadata of the type: a timestamp counts in UTC, whatever the name of its zone is
abbrev pub HasMetadata : LogicalType → List ℕ → Type 0
HasMetadata Float64 metadata = metadata ≡ []
HasMetadata Float32 metadata = metadata ≡ []
HasMetadata (Decimal d) metadata = metadata ≡ d.precision ∷ d.scale ∷ []
HasMetadata Date metadata = metadata ≡ 4 ∷ []
HasMetadata (Time unit) metadata = metadata ≡ unit_byte unit ∷ []
HasMetadata (Timestamp unit false) metadata = metadata ≡ unit_byte unit ∷ 0 ∷ 0 ∷ []
HasMetadata (Timestamp unit true) metadata = HasZone unit metadata

-- the storage of times of day, by their unit
abbrev pub time_storage : TimeUnit → StorageType
time_storage Seconds = I32
time_storage Milliseconds = I32
time_storage Microseconds = I64
time_storage Nanoseconds = I64

-- what the storage is
abbrev pub storage_type_of : LogicalType → StorageType
storage_type_of Float64 = I64
storage_type_of Float32 = I32
storage_type_of (Decimal d) = if nat_le d.precision 18 then I64 else Bytes
storage_type_of Date = I32
storage_type_of (Time unit) = time_storage unit
storage_type_of (Timestamp unit is_zoned) = I64

-- the integers that a storage holds
abbrev pub FitsStorage : StorageType → ℤ → Type 0
FitsStorage I32 z = FitsSigned w32 z
FitsStorage I64 z = FitsSigned w64 z
FitsStorage Bytes z = FitsSigned w128 z

-- the extension with this id, these metadata and this storage is the type
pub record IsExtension (id metadata : List ℕ) (storage : StorageType) (logical : LogicalType) : Type 0 where
  pub named : id ≡ id_of logical
  pub described : HasMetadata logical metadata
  pub stored : storage ≡ storage_type_of logical
