-- Times of day as words, and as numbers of a unit since midnight.
use Rattle.std.specs.Prelude.{◌≡◌, ◌++◌, ℕ, ℤ, pos, ◌*ℤ◌, false, List, Option, Some, None, codes, length, nat_lt, if◌then◌else◌}
use Rattle.jiff_core.specs.Calendar.{IsBetween}
use Rattle.logical_types.specs.Times.{moment_written, nanoseconds_of}
use Rattle.logical_types.specs.declared.times.TimeUnit.{TimeUnit}

-- z is a number of the unit since midnight, before the next
abbrev pub IsTimeOfDay : TimeUnit → ℤ → Type 0
IsTimeOfDay unit z = IsBetween (pos 0) (pos 86_399_999_999_999) (z *ℤ pos (nanoseconds_of unit))

-- the nanoseconds since midnight that a word of at most nine digits behind the point writes: it is what stands behind
-- the `T` of a timestamp without a zone
abbrev pub time_written : List ℕ → Option ℤ
time_written word = if nat_lt 18 (length word) then None else moment_written false (codes "1970-01-01T" ++ word)

-- the word writes the time that is z units after midnight
pub record IsTimeWord (unit : TimeUnit) (word : List ℕ) (z : ℤ) : Type 0 where
  pub is : IsTimeOfDay unit z
  pub moment : time_written word ≡ Some (z *ℤ pos (nanoseconds_of unit))
