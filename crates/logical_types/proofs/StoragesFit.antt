-- What stores the values of a type holds their storages.
use Rattle.std.proofs.Common.{◌≡◌, ◌<◌, ◌≤◌, ◌^◌, ℕ, ℤ, Bool, true, false, arith, refl, nat_le, unsigned_abs, if◌then◌else◌}
use mir.Syntax.{w128, w64}
use Rattle.std.proofs.lemmas.Bool.Decides.{nat_tests}
use Rattle.std.proofs.lemmas.Int.{fits_signed_from_abs, ints}
use Rattle.std.proofs.Math.Nat.{pow-le-pow_right}
use Rattle.logical_types.specs.Extensions.{FitsStorage, storage_type_of}
use Rattle.logical_types.specs.Words.{IsStorageOf}
use Rattle.logical_types.specs.declared.extensions.StorageType.TheVariants.{I64, Bytes}
use Rattle.logical_types.specs.declared.times.TimeUnit.TheVariants.{Seconds, Milliseconds, Microseconds, Nanoseconds}
use Rattle.logical_types.specs.declared.logical.LogicalType.{LogicalType}
use Rattle.logical_types.specs.declared.logical.LogicalType.TheVariants.{Float64, Float32, Decimal, Date, Time, Timestamp}

decimal_fits : (b : Bool) (p : ℕ) (z : ℤ) → nat_le p 18 ≡ b → p ≤ 38 → unsigned_abs z < 10 ^ p → FitsStorage (if b then I64 else Bytes) z
decimal_fits true p z e l h =
    let k : p ≤ 18 = grind (arith, nat_tests) in
    let m : 10 ^ p ≤ 10 ^ 18 = pow-le-pow_right (omega arith) k in
    fits_signed_from_abs w64 z (omega arith)
decimal_fits false p z e l h =
    let m : 10 ^ p ≤ 10 ^ 38 = pow-le-pow_right (omega arith) l in
    fits_signed_from_abs w128 z (omega arith)

pub fits : (logical : LogicalType) (z : ℤ) → IsStorageOf logical z → FitsStorage (storage_type_of logical) z
fits Float64 z h = omega (arith, ints, h.low, h.high)
fits Float32 z h = omega (arith, ints, h.low, h.high)
fits (Decimal d) z h = decimal_fits (nat_le d.precision 18) d.precision z refl d.small h
fits Date z h = omega (arith, ints, h.0, h.1)
fits (Time Seconds) z h = omega (arith, ints, h.0, h.1)
fits (Time Milliseconds) z h = omega (arith, ints, h.0, h.1)
fits (Time Microseconds) z h = omega (arith, ints, h.0, h.1)
fits (Time Nanoseconds) z h = omega (arith, ints, h.0, h.1)
fits (Timestamp unit is_zoned) z h = h.fits
