-- Logical types without the facts of their decimals: which one an extension is, and what their words write, as functions.
use Rattle.std.specs.Prelude.{◌==◌, ◌&&◌, ◌+◌, ◌-◌, ◌*◌, ◌/◌, ◌%◌, ◌^◌, ◌<◌, ◌+ℤ◌, ℕ, ℤ, pos, negsuc, neg_ℤ, unsigned_abs, Bool, true, false, not, List, [], ◌∷◌, Option, Some, None, codes, length, nat_le, nat_lt, if◌then◌else◌}
use Rattle.std.specs.Float.{binary32, binary64}
use Rattle.std.specs.Option.{option_and_then, option_map}
use Rattle.std.specs.Str.{bytes_eq}
use Rattle.logical_types.specs.Clock.{time_written}
use Rattle.logical_types.specs.Decimals.{decimal_value}
use Rattle.logical_types.specs.Floats.{storage_written}
use Rattle.logical_types.specs.Places.{fine_scale, number_at}
use Rattle.logical_types.specs.Days.{day_written, is_between}
use Rattle.logical_types.specs.Times.{nanoseconds_of, timestamp_written}
use Rattle.logical_types.specs.declared.decimals.places.DecimalPlace.{DecimalPlace}
use Rattle.logical_types.specs.declared.decimals.places.DecimalPlace.TheVariants.{At, Behind, BelowAll, AboveAll}
use Rattle.logical_types.specs.declared.extensions.StorageType.{StorageType}
use Rattle.logical_types.specs.declared.extensions.StorageType.TheVariants.{I32, I64, Bytes}
use Rattle.logical_types.specs.declared.logical.LogicalType.{LogicalType}
use Rattle.logical_types.specs.declared.logical.LogicalType.TheVariants as logicals
use Rattle.logical_types.specs.declared.times.TimeUnit.{TimeUnit}
use Rattle.logical_types.specs.declared.times.TimeUnit.TheVariants.{Seconds, Milliseconds, Microseconds, Nanoseconds}

-- a logical type
pub data Shape : Type 0 where
  float64 : Shape
  float32 : Shape
  -- numbers of at most so many digits, so many of them behind the point
  decimals : ℕ → ℕ → Shape
  days : Shape
  times : TimeUnit → Shape
  timestamps : TimeUnit → Bool → Shape

abbrev pub shape_of : LogicalType → Shape
shape_of logicals.Float64 = float64
shape_of logicals.Float32 = float32
shape_of (logicals.Decimal d) = decimals d.precision d.scale
shape_of logicals.Date = days
shape_of (logicals.Time unit) = times unit
shape_of (logicals.Timestamp unit is_zoned) = timestamps unit is_zoned

-- ---- extensions

-- what stores decimals of a precision, and times of a unit
abbrev pub decimal_storage : ℕ → StorageType
decimal_storage precision = if nat_le precision 18 then I64 else Bytes

abbrev pub clock_storage : TimeUnit → StorageType
clock_storage Seconds = I32
clock_storage Milliseconds = I32
clock_storage Microseconds = I64
clock_storage Nanoseconds = I64

-- what stores the values
abbrev pub stored_as : Shape → StorageType
stored_as float64 = I64
stored_as float32 = I32
stored_as (decimals precision scale) = decimal_storage precision
stored_as days = I32
stored_as (times unit) = clock_storage unit
stored_as (timestamps unit is_zoned) = I64

abbrev pub same_storage : StorageType → StorageType → Bool
same_storage I32 I32 = true
same_storage I64 I64 = true
same_storage Bytes Bytes = true
same_storage _ _ = false

-- the type, if this is what stores its values
abbrev pub stored_so : StorageType → Shape → Option Shape
stored_so kind s = if same_storage kind (stored_as s) then Some s else None

-- the unit of a byte
abbrev pub unit_of : ℕ → Option TimeUnit
unit_of byte =
    if byte == 0 then Some Nanoseconds
    else if byte == 1 then Some Microseconds
    else if byte == 2 then Some Milliseconds
    else if byte == 3 then Some Seconds
    else None

-- by metadata
abbrev pub float_of : Shape → List ℕ → Option Shape
float_of s [] = Some s
float_of s _ = None

abbrev pub decimals_of : List ℕ → Option Shape
decimals_of (precision ∷ scale ∷ []) = if nat_lt 0 precision && (nat_le precision 38 && nat_le scale precision) then Some (decimals precision scale) else None
decimals_of _ = None

abbrev pub days_of : List ℕ → Option Shape
days_of (byte ∷ []) = if byte == 4 then Some days else None
days_of _ = None

abbrev pub times_of : List ℕ → Option Shape
times_of (byte ∷ []) = option_map times (unit_of byte)
times_of _ = None

-- the name of a zone has the length that stands before it, low byte first; without a zone it is empty
abbrev pub timestamps_of : List ℕ → Option Shape
timestamps_of (byte ∷ low ∷ high ∷ name) =
    if length name == low + 256 * high then option_map (λ unit. timestamps unit (nat_lt 0 (length name))) (unit_of byte) else None
timestamps_of _ = None

abbrev pub shape_named : List ℕ → List ℕ → Option Shape
shape_named id metadata =
    if bytes_eq id (codes "doqallin.f64") then float_of float64 metadata
    else if bytes_eq id (codes "doqallin.f32") then float_of float32 metadata
    else if bytes_eq id (codes "doqallin.decimal") then decimals_of metadata
    else if bytes_eq id (codes "vortex.date") then days_of metadata
    else if bytes_eq id (codes "vortex.time") then times_of metadata
    else if bytes_eq id (codes "vortex.timestamp") then timestamps_of metadata
    else None

-- the logical type of an extension with this id, these metadata and this storage
abbrev pub shape_of_extension : List ℕ → List ℕ → StorageType → Option Shape
shape_of_extension id metadata kind = option_and_then (stored_so kind) (shape_named id metadata)

-- ---- words

-- how often a unit goes into a number, if it does so without a rest
abbrev pub whole_units : ℕ → ℤ → Option ℤ
whole_units unit (pos m) = if m % unit == 0 then Some (pos (m / unit)) else None
whole_units unit (negsuc m) = if (m + 1) % unit == 0 then Some (neg_ℤ (pos ((m + 1) / unit))) else None

-- z, if it lies there
abbrev pub if_between : ℤ → ℤ → ℤ → Option ℤ
if_between low high z = if is_between low high z then Some z else None

-- units since midnight, and since 1970-01-01T00:00:00 in the years -9999 to 9999 and in 64 bits
abbrev pub time_of_nanoseconds : TimeUnit → ℤ → Option ℤ
time_of_nanoseconds unit m = option_and_then (whole_units (nanoseconds_of unit)) (if_between (pos 0) (pos 86_399_999_999_999) m)

abbrev pub timestamp_of_nanoseconds : TimeUnit → ℤ → Option ℤ
timestamp_of_nanoseconds unit m =
    option_and_then (if_between (neg_ℤ (pos 9_223_372_036_854_775_808)) (pos 9_223_372_036_854_775_807))
    (option_and_then (whole_units (nanoseconds_of unit)) (if_between (neg_ℤ (pos 377_705_116_800_000_000_000)) (pos 253_402_300_799_999_999_999) m))

-- the storage of the value that a word writes
unfoldable pub storage_in : Shape → List ℕ → Option ℤ
storage_in float64 word = storage_written binary64 word
storage_in float32 word = storage_written binary32 word
storage_in (decimals precision scale) word = decimal_value (10 ^ precision) scale word
storage_in days word = day_written word
storage_in (times unit) word = option_and_then (time_of_nanoseconds unit) (time_written word)
storage_in (timestamps unit is_zoned) word = option_and_then (timestamp_of_nanoseconds unit) (timestamp_written is_zoned word)

-- ---- places

-- where a number from zero on, of so many units and a rest, lies among the multiples of a unit whose factors are below a limit
abbrev pub place_from_zero : ℕ → ℕ → ℕ → DecimalPlace
place_from_zero limit factor rest =
    if (rest == 0) && nat_lt factor limit then At (pos factor)
    else if not (rest == 0) && nat_lt factor (limit - 1) then Behind (pos factor)
    else AboveAll

-- and one below zero, by its size
abbrev pub place_below_zero : ℕ → ℕ → ℕ → DecimalPlace
place_below_zero limit factor rest =
    if (rest == 0) && nat_lt factor limit then At (neg_ℤ (pos factor))
    else if not (rest == 0) && nat_lt factor (limit - 1) then Behind (neg_ℤ (pos (factor + 1)))
    else BelowAll

abbrev pub place_at : ℕ → ℕ → ℤ → DecimalPlace
place_at limit unit (pos m) = place_from_zero limit (m / unit) (m % unit)
place_at limit unit (negsuc m) = place_below_zero limit ((m + 1) / unit) ((m + 1) % unit)

-- at a value, or else where it lies
abbrev pub at_value_or : Option ℤ → Option DecimalPlace → Option DecimalPlace
at_value_or (Some z) place = Some (At z)
at_value_or None place = place

-- Where the number that a word writes lies among numbers of at most so many digits, so many of them behind the point. A word
-- that writes none of these has at most 38 digits.
unfoldable pub place_in : ℕ → ℕ → List ℕ → Option DecimalPlace
place_in precision scale word =
    at_value_or (decimal_value (10 ^ precision) scale word)
    (option_map (place_at (10 ^ precision) (10 ^ (fine_scale scale word - scale))) (number_at (fine_scale scale word) word))

-- the values that a place names have their size below a limit
abbrev pub IsAmong : ℕ → DecimalPlace → Type 0
IsAmong limit (At z) = unsigned_abs z < limit
IsAmong limit (Behind z) = (unsigned_abs z < limit) × (unsigned_abs (z +ℤ pos 1) < limit)
IsAmong limit _ = Unit {0}
