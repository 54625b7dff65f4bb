-- Worked cases of statistics that name a logical type, each a theorem.
use Rattle.std.specs.Prelude.{◌≡◌, ℤ, pos, true, false, [], ◌∷◌, Option, Some, refl}
use Rattle.vortex_dtype.specs.TypeTree.{integer_type}
use Rattle.vortex_dtype.specs.declared.nullability.Nullability.TheVariants.{Nullable}
use Rattle.vortex_dtype.specs.declared.ptype.PType.TheVariants as ptypes
use Rattle.vortex_value.specs.Values.Content.{whole}
use Rattle.vortex_statistics.specs.Statistics.{Known, KnownBound}
use Rattle.logical_scalars.specs.Stored.{logical_tree}
use Rattle.logical_types.specs.declared.logical.LogicalType.TheVariants.{Float64, Date, Time, Timestamp}
use Rattle.logical_types.specs.declared.times.TimeUnit.TheVariants.{Seconds, Microseconds}
use Rattle.named_statistics.specs.Heads.{head_of, id_byte}
use Rattle.named_statistics.specs.Named.{named_encoding}

float_head : head_of (logical_tree Float64 Nullable) ≡ 2 ∷ 1 ∷ 0 ∷ 0 ∷ []
unfolding id_byte
float_head = refl

date_head : head_of (logical_tree Date Nullable) ≡ 2 ∷ 4 ∷ 4 ∷ 0 ∷ []
unfolding id_byte
date_head = refl

time_head : head_of (logical_tree (Time Seconds) Nullable) ≡ 2 ∷ 5 ∷ 3 ∷ 0 ∷ []
unfolding id_byte
time_head = refl

timestamp_head : head_of (logical_tree (Timestamp Microseconds false) Nullable) ≡ 2 ∷ 6 ∷ 1 ∷ 0 ∷ []
unfolding id_byte
timestamp_head = refl

zoned_head : head_of (logical_tree (Timestamp Microseconds true) Nullable) ≡ 2 ∷ 6 ∷ 1 ∷ 1 ∷ []
unfolding id_byte
zoned_head = refl

-- 1, null and 2 days after 1970-01-01
abbrev day : ℤ → Option KnownBound
day z = Some (record { value = record { typed = logical_tree Date Nullable; content = whole z }; is_exact = true })

abbrev two_days : Known
two_days = record { row_count = 3; null_count = Some 1; lower = day (pos 1); upper = day (pos 2) }

days_written : named_encoding (logical_tree Date Nullable) two_days
    ≡ 2 ∷ 4 ∷ 4 ∷ 0 ∷ 1 ∷ 31 ∷ 0 ∷ 0 ∷ 0 ∷ 0 ∷ 0 ∷ 0 ∷ 0 ∷ 3 ∷ 0 ∷ 0 ∷ 0 ∷ 0 ∷ 0 ∷ 0 ∷ 0 ∷ 1 ∷ 13 ∷ 1 ∷ 13 ∷ 2 ∷ []
unfolding id_byte
days_written = refl

-- the same of numbers have no name
numbers_written : named_encoding (integer_type ptypes.I32 Nullable) two_days
    ≡ 1 ∷ 31 ∷ 0 ∷ 0 ∷ 0 ∷ 0 ∷ 0 ∷ 0 ∷ 0 ∷ 3 ∷ 0 ∷ 0 ∷ 0 ∷ 0 ∷ 0 ∷ 0 ∷ 0 ∷ 1 ∷ 13 ∷ 1 ∷ 13 ∷ 2 ∷ []
numbers_written = refl
