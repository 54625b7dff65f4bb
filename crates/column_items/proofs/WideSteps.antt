-- Which formats have 16 bytes as content.
use Rattle.std.proofs.Common.{◌≡◌, ◌≤◌, ◌^◌, ℕ, ℤ, Bool, true, false, FitsSigned, arith, if◌then◌else◌, nat_le, nat_lt, refl}
use mir.Syntax.{w64}
use Rattle.std.proofs.Math.Nat.{pow-le-pow_right}
use Rattle.std.proofs.lemmas.Bool.Decides.{nat_tests}
use Rattle.std.proofs.lemmas.Int.{fits_signed_from_abs, ints}
use Rattle.arrow_columns.specs.Formats.{IsValueOf}
use Rattle.arrow_columns.specs.declared.formats.DecimalWidth.{DecimalWidth}
use Rattle.arrow_columns.specs.declared.formats.Format.{Format}
use Rattle.arrow_columns.specs.declared.formats.Format.TheVariants.{Float32, Float64, Date32, Time, Timestamp, Decimal}
use Rattle.column_cells.specs.Contents.{stored_content}
use Rattle.logical_types.specs.Storing.{decimal_bytes}
use Rattle.logical_types.specs.declared.times.TimeUnit.TheVariants.{Seconds, Milliseconds, Microseconds, Nanoseconds}
use Rattle.vortex_value.specs.Values.Content.{string, whole}
use Rattle.column_items.proofs.NumberSteps.{Holds}

pub decimal_holds : (width : DecimalWidth) (precision scale : ℕ) (wide : Bool) → wide ≡ nat_lt 18 precision → Holds (Decimal width precision scale) wide
decimal_holds width precision scale wide e z = by_test (nat_le precision 18) refl wide e
  where
    by_test : (b : Bool) → nat_le precision 18 ≡ b → (wide : Bool) → wide ≡ nat_lt 18 precision → (if b then whole z else string (decimal_bytes z)) ≡ (if wide then string (decimal_bytes z) else whole z)
    by_test true f false e = refl
    by_test false f true e = refl
    by_test true f true e = absurd (grind (arith, nat_tests))
    by_test false f false e = absurd (grind (arith, nat_tests))

few_digits : (precision : ℕ) (z : ℤ) (b : Bool) → nat_le precision 18 ≡ b → (if b then whole z else string (decimal_bytes z)) ≡ whole z → precision ≤ 18
few_digits precision z true f e = grind (arith, nat_tests)
few_digits precision z false f e = absurd cc

-- what integers store fits 64 bits
pub narrow : (format : Format) (z : ℤ) → stored_content format z ≡ whole z → IsValueOf format z → FitsSigned w64 z
narrow Float32 z e h = omega (arith, ints, h.low, h.high)
narrow Float64 z e h = omega (arith, ints, h.low, h.high)
narrow Date32 z e h = omega (arith, ints, h.0, h.1)
narrow (Time Seconds) z e h = omega (arith, ints, h.0, h.1)
narrow (Time Milliseconds) z e h = omega (arith, ints, h.0, h.1)
narrow (Time Microseconds) z e h = omega (arith, ints, h.0, h.1)
narrow (Time Nanoseconds) z e h = omega (arith, ints, h.0, h.1)
narrow (Timestamp unit is_zoned) z e h = h.fits
narrow (Decimal width precision scale) z e h =
    let few : precision ≤ 18 = few_digits precision z (nat_le precision 18) refl e in
    let m : 10 ^ precision ≤ 10 ^ 18 = pow-le-pow_right {n = 10} (omega arith) few in
    fits_signed_from_abs w64 z (omega (arith, h, m))
