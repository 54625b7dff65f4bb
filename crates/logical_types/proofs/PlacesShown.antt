-- Where a number lies, by its factor of a unit and what is left.
use Rattle.std.proofs.Common.{◌≡◌, ◌∙◌, ◌+◌, ◌-◌, ◌*◌, ◌<◌, ◌≤◌, ℕ, zero, suc, ℤ, pos, neg_ℤ, ◌+ℤ◌, ◌*ℤ◌, refl, sym, ap, arith, unsigned_abs}
use native.Mathlib.Nat.{mul-le-mul_left}
use Rattle.jiff_core.proofs.SignedLemmas.{signed_arith}
use Rattle.logical_types.specs.Places.{IsPlaceOf}
use Rattle.logical_types.specs.declared.decimals.places.DecimalPlace.TheVariants.{At, Behind, BelowAll, AboveAll}

-- multiples of a unit on both sides of zero
pub from_zero : (f u : ℕ) → pos f *ℤ pos u ≡ pos (u * f)
from_zero f u = let e : f * u ≡ u * f = omega arith in ap pos e

pub below_zero : (f u : ℕ) → neg_ℤ (pos f) *ℤ pos u ≡ neg_ℤ (pos (u * f))
below_zero zero u = let e : u * zero ≡ zero = omega arith in let k : zero * u ≡ zero = omega arith in rw e (ap pos k)
below_zero (suc f) u = let e : suc f * u ≡ u * suc f = omega arith in ap (λ (n : ℕ). neg_ℤ (pos n)) e

-- the greatest multiple is below what lies behind it
past : (limit u f size rest : ℕ) → 0 < u → u * f + rest ≡ size → limit - 1 ≤ f → (rest ≡ 0 → limit ≤ f) → 0 < limit → u * (limit - 1) < size
past limit u f size zero a e b c d =
    let l = c refl in
    let m : u * limit ≤ u * f = mul-le-mul_left u l in
    let s : limit ≡ suc (limit - 1) = omega arith in
    let t : u * limit ≡ u * (limit - 1) + u = ap (λ (k : ℕ). u * k) s ∙ (let k : u * suc (limit - 1) ≡ u * (limit - 1) + u = omega arith in k) in
    omega arith
past limit u f size (suc rest) a e b c d =
    let m : u * (limit - 1) ≤ u * f = mul-le-mul_left u b in
    omega arith

-- ---- from zero on
pub at_from_zero : (limit u f size : ℕ) (z : ℤ) → z ≡ pos f → u * f + 0 ≡ size → f < limit → IsPlaceOf limit u (pos size) (At z)
at_from_zero limit u f size z k e l =
    let s : u * f ≡ size = omega arith in
    let n : unsigned_abs z ≡ f = ap unsigned_abs k in
    (sym (ap (λ (y : ℤ). y *ℤ pos u) k ∙ from_zero f u ∙ ap pos s), omega arith)

pub above_from_zero : (limit u f size rest : ℕ) → 0 < u → u * f + rest ≡ size → limit - 1 ≤ f → (rest ≡ 0 → limit ≤ f) → 0 < limit → IsPlaceOf limit u (pos size) AboveAll
above_from_zero limit u f size rest a e b c d =
    let p = past limit u f size rest a e b c d in
    let s : (limit - 1) * u ≡ u * (limit - 1) = omega arith in
    omega (arith, signed_arith)

pub behind_from_zero : (limit u f size rest : ℕ) (z : ℤ) → z ≡ pos f → u * f + rest ≡ size → 0 < rest → rest < u → f < limit - 1 → IsPlaceOf limit u (pos size) (Behind z)
behind_from_zero limit u f size rest z k e a b l =
    let low : z *ℤ pos u ≡ pos (u * f) = ap (λ (y : ℤ). y *ℤ pos u) k ∙ from_zero f u in
    let next : z +ℤ pos 1 ≡ pos (f + 1) = omega (arith, signed_arith, k) in
    let high : (z +ℤ pos 1) *ℤ pos u ≡ pos (u * (f + 1)) = ap (λ (y : ℤ). y *ℤ pos u) next ∙ from_zero (f + 1) u in
    let m : u * (f + 1) ≡ u * f + u = omega arith in
    let n : unsigned_abs z ≡ f = ap unsigned_abs k in
    let o : unsigned_abs (z +ℤ pos 1) ≡ f + 1 = ap unsigned_abs next in
    (rw low (omega (arith, signed_arith)), rw high (omega (arith, signed_arith)), omega arith, omega arith)

-- ---- below zero
pub at_below_zero : (limit u f size : ℕ) (z : ℤ) → z ≡ neg_ℤ (pos f) → u * f + 0 ≡ size → f < limit → IsPlaceOf limit u (neg_ℤ (pos size)) (At z)
at_below_zero limit u f size z k e l =
    let s : u * f ≡ size = omega arith in
    let n : unsigned_abs z ≡ f = omega (arith, signed_arith, k) in
    (sym (ap (λ (y : ℤ). y *ℤ pos u) k ∙ below_zero f u ∙ ap (λ (n : ℕ). neg_ℤ (pos n)) s), omega arith)

pub below_below_zero : (limit u f size rest : ℕ) → 0 < u → u * f + rest ≡ size → limit - 1 ≤ f → (rest ≡ 0 → limit ≤ f) → 0 < limit → IsPlaceOf limit u (neg_ℤ (pos size)) BelowAll
below_below_zero limit u f size rest a e b c d =
    let p = past limit u f size rest a e b c d in
    let s : (limit - 1) * u ≡ u * (limit - 1) = omega arith in
    omega (arith, signed_arith)

pub behind_below_zero : (limit u f size rest : ℕ) (z : ℤ) → z ≡ neg_ℤ (pos (f + 1)) → u * f + rest ≡ size → 0 < rest → rest < u → f < limit - 1 → IsPlaceOf limit u (neg_ℤ (pos size)) (Behind z)
behind_below_zero limit u f size rest z k e a b l =
    let low : z *ℤ pos u ≡ neg_ℤ (pos (u * (f + 1))) = ap (λ (y : ℤ). y *ℤ pos u) k ∙ below_zero (f + 1) u in
    let next : z +ℤ pos 1 ≡ neg_ℤ (pos f) = omega (arith, signed_arith, k) in
    let high : (z +ℤ pos 1) *ℤ pos u ≡ neg_ℤ (pos (u * f)) = ap (λ (y : ℤ). y *ℤ pos u) next ∙ below_zero f u in
    let m : u * (f + 1) ≡ u * f + u = omega arith in
    let n : unsigned_abs z ≡ f + 1 = omega (arith, signed_arith, k) in
    let o : unsigned_abs (z +ℤ pos 1) ≡ f = omega (arith, signed_arith, next) in
    (rw low (omega (arith, signed_arith)), rw high (omega (arith, signed_arith)), omega arith, omega arith)
