-- The words that are printed of values of logical types: of each but a float there is one.
use Rattle.std.specs.Prelude.{◌≡◌, ◌++◌, ◌*ℤ◌, ◌<◌, ℕ, ℤ, pos, neg_ℤ, unsigned_abs, ◌+◌, Bool, true, false, List, None, codes}
use Rattle.std.specs.Float.{Format, binary32, binary64}
use Rattle.float_storage.specs.Storage.{infinity}
use Rattle.jiff_core.specs.DateTime.{civil_nanos}
use Rattle.jiff_core.specs.Time.{time_nanos}
use Rattle.jiff_core.specs.declared.civil.datetime.DateTime.{DateTime}
use Rattle.jiff_core.specs.declared.civil.time.Time.{Time}
use Rattle.jiff_fmt.specs.Text.{datetime_text, time_text}
use Rattle.ryu.specs.Plain.{IsLaidOutNumber}
use Rattle.logical_types.specs.Days.{IsDayWord}
use Rattle.logical_types.specs.Decimals.{decimal_text}
use Rattle.logical_types.specs.Times.{nanoseconds_of}
use Rattle.logical_types.specs.declared.logical.LogicalType.{LogicalType}
use Rattle.logical_types.specs.declared.logical.LogicalType.TheVariants.{Float64, Float32, Decimal, Date, Time as Clock, Timestamp}
use Rattle.logical_types.specs.declared.times.TimeUnit.{TimeUnit}

-- `14:05:57.25`: of a fraction of a second the digits up to the last that is not 0, and without one no point
pub record IsTimeText (unit : TimeUnit) (word : List ℕ) (z : ℤ) : Type 0 where
  pub time : Time
  pub counted : pos (time_nanos time) ≡ z *ℤ pos (nanoseconds_of unit)
  pub written : word ≡ time_text None time

-- `2026-03-01T14:05:57.25`, and in a type with a zone `2026-03-01T14:05:57.25Z`
abbrev pub civil_text : Bool → DateTime → List ℕ
civil_text false civil = datetime_text false 84 None civil
civil_text true civil = datetime_text false 84 None civil ++ codes "Z"

pub record IsTimestampText (unit : TimeUnit) (is_zoned : Bool) (word : List ℕ) (z : ℤ) : Type 0 where
  pub civil : DateTime
  pub counted : civil_nanos civil ≡ z *ℤ pos (nanoseconds_of unit)
  pub written : word ≡ civil_text is_zoned civil

-- The word of a float, by its storage. That of a number but 0 is a numeral, with an exponent just where more than so many digits
-- would stand before the point, or more than so many zeros behind it.
pub record IsFloatText (f : Format) (digits leading : ℕ) (word : List ℕ) (z : ℤ) : Type 0 where
  pub zero : z ≡ pos 0 → word ≡ codes "0.0"
  pub number : 0 < unsigned_abs z → unsigned_abs z < infinity f → IsLaidOutNumber digits leading word
  pub infinite : z ≡ pos (infinity f) → word ≡ codes "inf"
  pub below_all : z ≡ neg_ℤ (pos (infinity f)) → word ≡ codes "-inf"
  pub not_a_number : z ≡ pos (infinity f + 1) → word ≡ codes "NaN"

-- the word is the one that is printed of the value with this storage
abbrev pub IsPrinted : LogicalType → List ℕ → ℤ → Type 0
IsPrinted Float64 word z = IsFloatText binary64 16 4 word z
IsPrinted Float32 word z = IsFloatText binary32 13 5 word z
IsPrinted (Decimal d) word z = word ≡ decimal_text d.scale z
IsPrinted Date word z = IsDayWord word z
IsPrinted (Clock unit) word z = IsTimeText unit word z
IsPrinted (Timestamp unit is_zoned) word z = IsTimestampText unit is_zoned word z

-- whether a type's values are floats
abbrev pub is_float : LogicalType → Bool
is_float Float64 = true
is_float Float32 = true
is_float _ = false
