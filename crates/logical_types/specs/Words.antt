-- The words of values of logical types.
use Rattle.std.specs.Prelude.{◌≡◌, ◌<◌, ◌^◌, ℕ, ℤ, List, Some, unsigned_abs}
use Rattle.std.specs.Float.{binary32, binary64}
use Rattle.float_storage.specs.Storage.{IsStorage}
use Rattle.jiff_core.specs.Calendar.{IsEpochDay}
use Rattle.logical_types.specs.Clock.{IsTimeOfDay, IsTimeWord}
use Rattle.logical_types.specs.Days.{IsDayWord}
use Rattle.logical_types.specs.Decimals.{decimal_value}
use Rattle.logical_types.specs.Floats.{storage_written}
use Rattle.logical_types.specs.Times.{IsTimestamp, IsTimestampWord}
use Rattle.logical_types.specs.declared.logical.LogicalType.{LogicalType}
use Rattle.logical_types.specs.declared.logical.LogicalType.TheVariants.{Float64, Float32, Decimal, Date, Time, Timestamp}

-- the word writes the value that has this storage
abbrev pub Writes : LogicalType → List ℕ → ℤ → Type 0
Writes Float64 word z = storage_written binary64 word ≡ Some z
Writes Float32 word z = storage_written binary32 word ≡ Some z
Writes (Decimal d) word z = decimal_value (10 ^ d.precision) d.scale word ≡ Some z
Writes Date word z = IsDayWord word z
Writes (Time unit) word z = IsTimeWord unit word z
Writes (Timestamp unit is_zoned) word z = IsTimestampWord unit is_zoned word z

-- the integer is the storage of a value
abbrev pub IsStorageOf : LogicalType → ℤ → Type 0
IsStorageOf Float64 z = IsStorage binary64 z
IsStorageOf Float32 z = IsStorage binary32 z
IsStorageOf (Decimal d) z = unsigned_abs z < 10 ^ d.precision
IsStorageOf Date z = IsEpochDay z
IsStorageOf (Time unit) z = IsTimeOfDay unit z
IsStorageOf (Timestamp unit is_zoned) z = IsTimestamp unit z
