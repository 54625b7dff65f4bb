-- The names of logical types, and a list of those without digits in their names.
use Rattle.std.specs.Prelude.{ℕ, List, [], ◌∷◌, ◌++◌, true, false, codes}
use Rattle.std.specs.Fmt.{decimal}
use Rattle.logical_types.specs.declared.times.TimeUnit.{TimeUnit}
use Rattle.logical_types.specs.declared.times.TimeUnit.TheVariants.{Seconds, Milliseconds, Microseconds, Nanoseconds}
use Rattle.logical_types.specs.declared.logical.DecimalType.{DecimalType}
use Rattle.logical_types.specs.declared.logical.LogicalType.{LogicalType}
use Rattle.logical_types.specs.declared.logical.LogicalType.TheVariants.{Float64, Float32, Decimal, Date, Time, Timestamp}

-- `decimal(10,2)`
abbrev pub decimal_name : DecimalType → List ℕ
decimal_name d = codes "decimal(" ++ (decimal d.precision ++ (44 ∷ (decimal d.scale ++ (41 ∷ []))))

abbrev pub time_name : TimeUnit → List ℕ
time_name Seconds = codes "time(s)"
time_name Milliseconds = codes "time(ms)"
time_name Microseconds = codes "time(us)"
time_name Nanoseconds = codes "time(ns)"

abbrev pub timestamp_name : TimeUnit → List ℕ
timestamp_name Seconds = codes "timestamp(s)"
timestamp_name Milliseconds = codes "timestamp(ms)"
timestamp_name Microseconds = codes "timestamp(us)"
timestamp_name Nanoseconds = codes "timestamp(ns)"

abbrev pub zoned_name : TimeUnit → List ℕ
zoned_name Seconds = codes "timestamp(s,UTC)"
zoned_name Milliseconds = codes "timestamp(ms,UTC)"
zoned_name Microseconds = codes "timestamp(us,UTC)"
zoned_name Nanoseconds = codes "timestamp(ns,UTC)"

-- the name of a type
abbrev pub name_of : LogicalType → List ℕ
name_of Float64 = codes "f64"
name_of Float32 = codes "f32"
name_of (Decimal d) = decimal_name d
name_of Date = codes "date"
name_of (Time unit) = time_name unit
name_of (Timestamp unit false) = timestamp_name unit
name_of (Timestamp unit true) = zoned_name unit

-- every type but decimals
abbrev pub plain_types : List LogicalType
plain_types =
    Float64 ∷ Float32 ∷ Date ∷ Time Seconds ∷ Time Milliseconds ∷ Time Microseconds ∷ Time Nanoseconds
    ∷ Timestamp Seconds false ∷ Timestamp Milliseconds false ∷ Timestamp Microseconds false ∷ Timestamp Nanoseconds false
    ∷ Timestamp Seconds true ∷ Timestamp Milliseconds true ∷ Timestamp Microseconds true ∷ Timestamp Nanoseconds true ∷ []
