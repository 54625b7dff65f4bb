-- Timestamps as words, and as numbers of a unit since 1970-01-01T00:00:00.
use Rattle.std.specs.Prelude.{◌≡◌, ◌+◌, ◌==◌, ◌&&◌, ◌||◌, not, ℕ, ℤ, pos, ◌*ℤ◌, ◌-ℤ◌, Bool, true, false, List, Option, Some, None, Result, Ok, Err, if◌then◌else◌, slice_index, FitsSigned}
use Rattle.std.specs.Int.{w64}
use Rattle.std.specs.Option.{option_map}
use Rattle.jiff_core.specs.DateTime.{IsCivilNanos}
use Rattle.jiff_core.specs.Timestamp.{nanos_of_seconds}
use Rattle.jiff_core.specs.declared.error.Error.{Error}
use Rattle.jiff_fmt.specs.Temporal.{OffsetPiece, PiecesParts, TimeParts, ZonePiece, parse_pieces, parts_nanos, piece_seconds}
use Rattle.logical_types.specs.Days.{day_written}
use Rattle.logical_types.specs.declared.times.TimeUnit.{TimeUnit}
use Rattle.logical_types.specs.declared.times.TimeUnit.TheVariants.{Seconds, Milliseconds, Microseconds, Nanoseconds}

-- how many nanoseconds a unit has
abbrev pub nanoseconds_of : TimeUnit → ℕ
nanoseconds_of Seconds = 1_000_000_000
nanoseconds_of Milliseconds = 1_000_000
nanoseconds_of Microseconds = 1_000
nanoseconds_of Nanoseconds = 1

-- how many bytes a year's sign adds: `-000001` and `+002026` have three more than `2026`
abbrev pub sign_shift : List ℕ → ℕ
sign_shift word = if (slice_index word 0 == 43) || (slice_index word 0 == 45) then 3 else 0

-- the date has dashes and the time colons, and the second is below 60: the kit reads 60 as 59
abbrev pub has_separators : List ℕ → Bool
has_separators word =
    (slice_index word (4 + sign_shift word) == 45) && ((slice_index word (13 + sign_shift word) == 58) && not (slice_index word (17 + sign_shift word) == 54))

-- the nanoseconds since 1970-01-01T00:00:00 on the clock of a word, or in UTC by its offset
abbrev pub moment_at : Bool → PiecesParts → TimeParts → Option OffsetPiece → Option ZonePiece → Option ℤ
moment_at false p t None None = Some (parts_nanos p.date t)
moment_at true p t (Some offset) None = Some (parts_nanos p.date t -ℤ nanos_of_seconds (piece_seconds offset))
moment_at _ _ _ _ _ = None

-- the same of pieces whose time may be missing
abbrev pub moment_of_time : Bool → PiecesParts → Option TimeParts → Option ℤ
moment_of_time is_zoned p None = None
moment_of_time is_zoned p (Some t) = moment_at is_zoned p t p.offset p.zone

-- the same of what the kit reads
abbrev pub moment_of_pieces : Bool → Result PiecesParts Error → Option ℤ
moment_of_pieces is_zoned (Err e) = None
moment_of_pieces is_zoned (Ok p) = moment_of_time is_zoned p p.time

-- the moment that a word writes: a date and a time, and an offset or `Z` exactly if the type has a zone
abbrev pub moment_written : Bool → List ℕ → Option ℤ
moment_written is_zoned word = if has_separators word then moment_of_pieces is_zoned (parse_pieces word) else None

-- how many nanoseconds a day has
abbrev pub day_nanoseconds : ℕ
day_nanoseconds = 86_400_000_000_000

-- the moment at which the day of a word begins
abbrev pub midnight_written : List ℕ → Option ℤ
midnight_written word = option_map (λ day. day *ℤ pos day_nanoseconds) (day_written word)

-- the moment that was read, or else the midnight of a date alone, where the type has no zone
abbrev pub moment_or_midnight : Option ℤ → Bool → List ℕ → Option ℤ
moment_or_midnight (Some moment) is_zoned word = Some moment
moment_or_midnight None true word = None
moment_or_midnight None false word = midnight_written word

-- the moment that the word of a timestamp writes
abbrev pub timestamp_written : Bool → List ℕ → Option ℤ
timestamp_written is_zoned word = moment_or_midnight (moment_written is_zoned word) is_zoned word

-- z is a number of the unit since 1970-01-01T00:00:00, in 64 bits and in the years -9999 to 9999
pub record IsTimestamp (unit : TimeUnit) (z : ℤ) : Type 0 where
  pub fits : FitsSigned w64 z
  pub dated : IsCivilNanos (z *ℤ pos (nanoseconds_of unit))

-- the word writes the moment that is z units since 1970-01-01T00:00:00, exactly
pub record IsTimestampWord (unit : TimeUnit) (is_zoned : Bool) (word : List ℕ) (z : ℤ) : Type 0 where
  pub is : IsTimestamp unit z
  pub moment : timestamp_written is_zoned word ≡ Some (z *ℤ pos (nanoseconds_of unit))
