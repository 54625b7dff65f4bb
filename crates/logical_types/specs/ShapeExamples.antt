-- Worked cases of logical types and their words, each a theorem.
use Rattle.std.specs.Prelude.{◌≡◌, ⊤, pos, negsuc, true, false, [], ◌∷◌, Some, None, codes, refl}
use Rattle.jiff_core.specs.Calendar.{day_count, days_from_civil, days_of_months, days_of_years}
use Rattle.jiff_fmt.specs.Offset.{parse_optional}
use Rattle.jiff_fmt.specs.Offset.{parse as parse_offset}
use Rattle.jiff_fmt.specs.Reader.{field, four_digits, temporal_fraction, two_digits}
use Rattle.jiff_fmt.specs.Rfc9557.{annotations, parse, time_zone_annotation}
use Rattle.jiff_fmt.specs.Temporal.{date_spec, temporal_datetime, time_spec, year}
use Rattle.logical_types.specs.Shapes.{days, decimals, float64, place_in, shape_of_extension, storage_in, timestamps}
use Rattle.logical_types.specs.declared.decimals.places.DecimalPlace.TheVariants.{At, Behind, BelowAll, AboveAll}
use Rattle.logical_types.specs.declared.extensions.StorageType.TheVariants.{I64}
use Rattle.logical_types.specs.declared.times.TimeUnit.TheVariants.{Milliseconds, Microseconds}

-- what the proofs of dates and times compute by
unfoldable pub on_words : ⊤
unfolding annotations date_spec day_count days_from_civil days_of_months days_of_years field four_digits parse parse_offset parse_optional storage_in temporal_datetime temporal_fraction time_spec time_zone_annotation two_digits year
on_words = tt

-- ---- extensions

float_named : shape_of_extension (codes "doqallin.f64") [] I64 ≡ Some float64
float_named = refl

decimal_named : shape_of_extension (codes "doqallin.decimal") (10 ∷ 2 ∷ []) I64 ≡ Some (decimals 10 2)
decimal_named = refl

-- more places than digits, and a storage that is too small
no_decimal : shape_of_extension (codes "doqallin.decimal") (2 ∷ 10 ∷ []) I64 ≡ None
no_decimal = refl

wide_decimal : shape_of_extension (codes "doqallin.decimal") (38 ∷ 9 ∷ []) I64 ≡ None
wide_decimal = refl

-- a zone may have any name
zone_named : shape_of_extension (codes "vortex.timestamp") (1 ∷ 3 ∷ 0 ∷ codes "CET") I64 ≡ Some (timestamps Microseconds true)
zone_named = refl

-- ---- words

two_places : storage_in (decimals 10 2) (codes "12.30") ≡ Some (pos 1230)
unfolding storage_in
two_places = refl

a_day : storage_in days (codes "2026-03-01") ≡ Some (pos 20513)
unfolding on_words
a_day = refl

no_day : storage_in days (codes "2026-03-01T14:00") ≡ None
unfolding on_words
no_day = refl

-- with a space, and with an offset where the type has a zone
without_zone : storage_in (timestamps Microseconds false) (codes "2026-03-01 14:00") ≡ Some (pos 1772373600000000)
unfolding on_words
without_zone = refl

with_zone : storage_in (timestamps Microseconds true) (codes "2026-03-01T15:00:00Z") ≡ Some (pos 1772377200000000)
unfolding on_words
with_zone = refl

-- a date alone is its midnight where the type has no zone
midnight : storage_in (timestamps Milliseconds false) (codes "2026-03-01") ≡ Some (pos 1772323200000)
unfolding on_words
midnight = refl

no_midnight : storage_in (timestamps Milliseconds true) (codes "2026-03-01") ≡ None
unfolding storage_in
no_midnight = refl

-- ---- places

between_values : place_in 10 2 (codes "12.345") ≡ Some (Behind (pos 1234))
unfolding place_in
between_values = refl

below_zero : place_in 10 2 (codes "-12.345") ≡ Some (Behind (negsuc 1234))
unfolding place_in
below_zero = refl

above_all : place_in 4 2 (codes "100") ≡ Some AboveAll
unfolding place_in
above_all = refl

below_all : place_in 4 2 (codes "-99.991") ≡ Some BelowAll
unfolding place_in
below_all = refl

at_value : place_in 4 2 (codes "99.990") ≡ Some (At (pos 9999))
unfolding place_in
at_value = refl
