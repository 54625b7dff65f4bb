-- Formats of columns of logical types: their codes, their items, and what these stand for.
use Rattle.std.specs.Prelude.{◌≡◌, ◌==◌, ◌&&◌, ◌<◌, ◌≤◌, ◌^◌, ℕ, ℤ, true, false, Option, Some, None, if◌then◌else◌, nat_le, nat_lt, unsigned_abs}
use Rattle.std.specs.Float.{binary32, binary64}
use Rattle.float_storage.specs.Storage.{IsStorage}
use Rattle.jiff_core.specs.Calendar.{IsEpochDay}
use Rattle.logical_types.specs.Clock.{IsTimeOfDay}
use Rattle.logical_types.specs.Times.{IsTimestamp}
use Rattle.logical_types.specs.declared.logical.LogicalType.{LogicalType}
use Rattle.logical_types.specs.declared.logical.LogicalType.TheVariants as logical
use Rattle.logical_types.specs.declared.times.TimeUnit.{TimeUnit}
use Rattle.logical_types.specs.declared.times.TimeUnit.TheVariants.{Seconds, Milliseconds, Microseconds, Nanoseconds}
use Rattle.arrow_columns.specs.declared.formats.DecimalWidth.{DecimalWidth}
use Rattle.arrow_columns.specs.declared.formats.DecimalWidth.TheVariants.{Bits32, Bits64, Bits128}
use Rattle.arrow_columns.specs.declared.formats.Format.{Format}
use Rattle.arrow_columns.specs.declared.formats.Format.TheVariants.{Float32, Float64, Date32, Time, Timestamp, Decimal}
use Rattle.arrow_columns.specs.declared.kinds.IntegerKind.TheVariants.{I32, I64}
use Rattle.arrow_columns.specs.declared.kinds.ItemKind.{ItemKind}
use Rattle.arrow_columns.specs.declared.kinds.ItemKind.TheVariants.{Integer, F32, F64, I128}

-- ---- items

-- how many digits a decimal of the width has at most
abbrev pub greatest_precision : DecimalWidth → ℕ
greatest_precision Bits32 = 9
greatest_precision Bits64 = 18
greatest_precision Bits128 = 38

-- the items of times of day
abbrev pub time_items : TimeUnit → ItemKind
time_items Seconds = Integer I32
time_items Milliseconds = Integer I32
time_items Microseconds = Integer I64
time_items Nanoseconds = Integer I64

-- the items of decimals
abbrev pub decimal_items : DecimalWidth → ItemKind
decimal_items Bits32 = Integer I32
decimal_items Bits64 = Integer I64
decimal_items Bits128 = I128

-- the items of a format
abbrev pub items_of : Format → ItemKind
items_of Float32 = F32
items_of Float64 = F64
items_of Date32 = Integer I32
items_of (Time unit) = time_items unit
items_of (Timestamp unit is_zoned) = Integer I64
items_of (Decimal width precision scale) = decimal_items width

-- ---- what they stand for

-- the numbers of the format have a meaning: decimals have digits, no more than their width, and no more places than digits
abbrev pub IsSound : Format → Type 0
IsSound (Decimal width precision scale) = (0 < precision) × (precision ≤ greatest_precision width) × (scale ≤ precision)
IsSound _ = Unit {0}

-- the number is the storage of a value
abbrev pub IsValueOf : Format → ℤ → Type 0
IsValueOf Float32 z = IsStorage binary32 z
IsValueOf Float64 z = IsStorage binary64 z
IsValueOf Date32 z = IsEpochDay z
IsValueOf (Time unit) z = IsTimeOfDay unit z
IsValueOf (Timestamp unit is_zoned) z = IsTimestamp unit z
IsValueOf (Decimal width precision scale) z = unsigned_abs z < 10 ^ precision

-- the logical type of a format
abbrev pub IsLogicalTypeOf : Format → LogicalType → Type 0
IsLogicalTypeOf Float32 l = l ≡ logical.Float32
IsLogicalTypeOf Float64 l = l ≡ logical.Float64
IsLogicalTypeOf Date32 l = l ≡ logical.Date
IsLogicalTypeOf (Time unit) l = l ≡ logical.Time unit
IsLogicalTypeOf (Timestamp unit is_zoned) l = l ≡ logical.Timestamp unit is_zoned
IsLogicalTypeOf (Decimal width precision scale) (logical.Decimal d) = IsSound (Decimal width precision scale) × (d.precision ≡ precision) × (d.scale ≡ scale)
IsLogicalTypeOf (Decimal width precision scale) _ = ⊥

-- ---- codes

-- decimals of this width, precision and scale, if there are such
abbrev pub decimal_format_at : DecimalWidth → ℕ → ℕ → Option Format
decimal_format_at width precision scale =
    if nat_lt 0 precision && (nat_le precision (greatest_precision width) && nat_le scale precision) then Some (Decimal width precision scale) else None

-- timestamps without a zone, by their unit, and then with one
abbrev pub timestamp_format_at : ℕ → Option Format
timestamp_format_at code =
    if code == 21 then Some (Timestamp Seconds false) else
    if code == 22 then Some (Timestamp Milliseconds false) else
    if code == 23 then Some (Timestamp Microseconds false) else
    if code == 24 then Some (Timestamp Nanoseconds false) else
    if code == 25 then Some (Timestamp Seconds true) else
    if code == 26 then Some (Timestamp Milliseconds true) else
    if code == 27 then Some (Timestamp Microseconds true) else
    if code == 28 then Some (Timestamp Nanoseconds true) else None

-- the format with this code; of decimals also by their precision and scale
abbrev pub format_at : ℕ → ℕ → ℕ → Option Format
format_at code precision scale =
    if code == 14 then Some Float32 else
    if code == 15 then Some Float64 else
    if code == 16 then Some Date32 else
    if code == 17 then Some (Time Seconds) else
    if code == 18 then Some (Time Milliseconds) else
    if code == 19 then Some (Time Microseconds) else
    if code == 20 then Some (Time Nanoseconds) else
    if code == 29 then decimal_format_at Bits32 precision scale else
    if code == 30 then decimal_format_at Bits64 precision scale else
    if code == 31 then decimal_format_at Bits128 precision scale else timestamp_format_at code
