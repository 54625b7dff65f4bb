-- The number of a value fits an item of its format.
use Rattle.std.proofs.Common.{◌≤◌, ◌^◌, ℤ, pos, FitsSigned, arith}
use mir.Syntax.{w128, w32, w64}
use Rattle.std.proofs.lemmas.Int.{fits_signed_from_abs, ints}
use Rattle.std.proofs.Math.Nat.{pow-le-pow_right}
use Rattle.arrow_columns.specs.Formats.{IsSound, IsValueOf, items_of}
use Rattle.arrow_columns.specs.declared.formats.DecimalWidth.TheVariants.{Bits32, Bits64, Bits128}
use Rattle.arrow_columns.specs.declared.formats.Format.{Format}
use Rattle.arrow_columns.specs.declared.formats.Format.TheVariants.{Float32, Float64, Date32, Time, Timestamp, Decimal}
use Rattle.logical_types.specs.declared.times.TimeUnit.TheVariants.{Seconds, Milliseconds, Microseconds, Nanoseconds}
use Rattle.column_items.specs.Items.{FitsItem}

pub fits_item : (format : Format) (z : ℤ) → IsSound format → IsValueOf format z → FitsItem (items_of format) z
fits_item Float32 z s h = omega (arith, ints, h.low, h.high)
fits_item Float64 z s h = omega (arith, ints, h.low, h.high)
fits_item Date32 z s h = (omega (arith, ints, h.0, h.1), omega (arith, ints, h.0, h.1))
fits_item (Time Seconds) z s h = (omega (arith, ints, h.0, h.1), omega (arith, ints, h.0, h.1))
fits_item (Time Milliseconds) z s h = (omega (arith, ints, h.0, h.1), omega (arith, ints, h.0, h.1))
fits_item (Time Microseconds) z s h = (omega (arith, ints, h.0, h.1), omega (arith, ints, h.0, h.1))
fits_item (Time Nanoseconds) z s h = (omega (arith, ints, h.0, h.1), omega (arith, ints, h.0, h.1))
fits_item (Timestamp unit is_zoned) z s h = let f = h.fits in (omega (arith, ints, f), omega (arith, ints, f))
fits_item (Decimal Bits32 precision scale) z s h =
    let m : 10 ^ precision ≤ 10 ^ 9 = pow-le-pow_right (omega arith) s.1 in
    let f : FitsSigned w32 z = fits_signed_from_abs w32 z (omega arith) in
    (omega (arith, ints, f), omega (arith, ints, f))
fits_item (Decimal Bits64 precision scale) z s h =
    let m : 10 ^ precision ≤ 10 ^ 18 = pow-le-pow_right (omega arith) s.1 in
    let f : FitsSigned w64 z = fits_signed_from_abs w64 z (omega arith) in
    (omega (arith, ints, f), omega (arith, ints, f))
fits_item (Decimal Bits128 precision scale) z s h =
    let m : 10 ^ precision ≤ 10 ^ 38 = pow-le-pow_right (omega arith) s.1 in
    fits_signed_from_abs w128 z (omega arith)

-- 0 is a value of each format, and fits

pub zero_value : (format : Format) → IsValueOf format (pos 0)
zero_value Float32 = record { low = omega (arith, ints); high = omega (arith, ints) }
zero_value Float64 = record { low = omega (arith, ints); high = omega (arith, ints) }
zero_value Date32 = (omega (arith, ints), omega (arith, ints))
zero_value (Time unit) = (omega (arith, ints), omega (arith, ints))
zero_value (Timestamp unit is_zoned) = record { fits = omega (arith, ints); dated = (omega (arith, ints), omega (arith, ints)) }
zero_value (Decimal width precision scale) = let m : 10 ^ 0 ≤ 10 ^ precision = pow-le-pow_right {n = 10} (omega arith) {i = 0} {j = precision} (omega arith) in omega (arith, m)

pub zero_fits : (format : Format) → FitsItem (items_of format) (pos 0)
zero_fits Float32 = omega (arith, ints)
zero_fits Float64 = omega (arith, ints)
zero_fits Date32 = (omega (arith, ints), omega (arith, ints))
zero_fits (Time Seconds) = (omega (arith, ints), omega (arith, ints))
zero_fits (Time Milliseconds) = (omega (arith, ints), omega (arith, ints))
zero_fits (Time Microseconds) = (omega (arith, ints), omega (arith, ints))
zero_fits (Time Nanoseconds) = (omega (arith, ints), omega (arith, ints))
zero_fits (Timestamp unit is_zoned) = (omega (arith, ints), omega (arith, ints))
zero_fits (Decimal Bits32 precision scale) = (omega (arith, ints), omega (arith, ints))
zero_fits (Decimal Bits64 precision scale) = (omega (arith, ints), omega (arith, ints))
zero_fits (Decimal Bits128 precision scale) = omega (arith, ints)
