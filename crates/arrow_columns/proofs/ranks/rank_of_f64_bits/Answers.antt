use Rattle.std.proofs.Common.{◌≡◌, ◌∙◌, ◌≤◌, ◌<◌, ◌%◌, ◌+◌, ◌-◌, ℕ, ℤ, pos, negsuc, suc, inl, inr, ◌+ℤ◌, ◌≤ℤ◌, ap, arith, of_z, subst, sym, to_z, w64}
use Rattle.std.proofs.lemmas.Int.{ints, of_z-to_z}
use Rattle.std.specs.Float.{binary64}
use lib.IntN.{neg_ℤ}
use mir.Facts.{to_z-neg}
use Rattle.arrow_columns.specs.Ranks.{storage_of_rank}
use Rattle.float_storage.specs.Storage.{storage_of_bits}
use Rattle.arrow_columns.proofs.RankSteps.{rank_with_sign, rank_without_sign, size}
use Rattle.arrow_columns.proofs.ranks.rank_of_f64_bits.Goals as goal
use Rattle.arrow_columns.proofs.ranks.rank_of_f64_bits.Goals.{else-bits-ge-SIGN_64, then-bits-ge-SIGN_64}

-- what is left of t less so many at a type with a sign
below_zero : (t k : ℕ) → (t + 18442240474082181121) % 18446744073709551616 + suc k ≡ 18446744073709551616 → k < 9223372036854775808 → to_z w64 ((t + 18442240474082181121) % 18446744073709551616) ≡ negsuc k
below_zero t k e h =
    let q : (t + 18442240474082181121) % 18446744073709551616 ≡ 18446744073709551616 - suc k = omega (arith, e) in
    ap (to_z w64) q ∙ to_z-neg w64 k h

from_zero : (t q : ℕ) → (t + 18442240474082181121) % 18446744073709551616 ≡ q → q < 9223372036854775808 → to_z w64 ((t + 18442240474082181121) % 18446744073709551616) ≡ pos q
from_zero t q e h =
    let small : to_z w64 q ≡ pos q = omega (arith, ints, h) in
    ap (to_z w64) e ∙ small

with_sign : (b t : ℕ) → 9223372036854775808 ≤ b → b < 18446744073709551616 → t + b ≡ 27670116110564327423 → b % 9223372036854775808 ≤ 9218868437227405312
    → (to_z w64 ((t + 18442240474082181121) % 18446744073709551616) +ℤ pos 4503599627370495) +ℤ pos 1 ≡ neg_ℤ (pos (b % 9223372036854775808))
with_sign b t s l e h =
    let k : ℕ = b % 9223372036854775808 + 4503599627370495 in
    let low : k < 9223372036854775808 = omega (arith, h) in
    let left : (t + 18442240474082181121) % 18446744073709551616 + suc k ≡ 18446744073709551616 = omega (arith, s, l, e, h) in
    let r : to_z w64 ((t + 18442240474082181121) % 18446744073709551616) ≡ negsuc k = below_zero t k left low in
    let sum : (negsuc k +ℤ pos 4503599627370495) +ℤ pos 1 ≡ neg_ℤ (pos (b % 9223372036854775808)) = omega (arith, ints) in
    ap (λ (z : ℤ). (z +ℤ pos 4503599627370495) +ℤ pos 1) r ∙ sum

nan_with_sign : (b t : ℕ) → 9223372036854775808 ≤ b → b < 18446744073709551616 → t + b ≡ 27670116110564327423 → 9218868437227405312 < b % 9223372036854775808
    → pos 9218868437227405313 ≤ℤ (to_z w64 ((t + 18442240474082181121) % 18446744073709551616) +ℤ pos 4503599627370495)
nan_with_sign b t s l e h =
    let q : ℕ = 18442240474082181120 - b % 9223372036854775808 in
    let low : q < 9223372036854775808 = omega (arith, h) in
    let left : (t + 18442240474082181121) % 18446744073709551616 ≡ q = omega (arith, s, l, e, h) in
    let r : to_z w64 ((t + 18442240474082181121) % 18446744073709551616) ≡ pos q = from_zero t q left low in
    omega (arith, ints, r, s, l, h)

without_sign : (b : ℕ) → b < 9223372036854775808 → to_z w64 ((b + 18442240474082181121) % 18446744073709551616) +ℤ pos 4503599627370495 ≡ pos (b % 9223372036854775808)
without_sign b l =
    elim (size 4503599627370495 b) [
      | inl h ↦
          let low : b - 4503599627370495 < 9223372036854775808 = omega (arith, l) in
          let left : (b + 18442240474082181121) % 18446744073709551616 ≡ b - 4503599627370495 = omega (arith, l, h) in
          let r : to_z w64 ((b + 18442240474082181121) % 18446744073709551616) ≡ pos (b - 4503599627370495) = from_zero b (b - 4503599627370495) left low in
          let sum : pos (b - 4503599627370495) +ℤ pos 4503599627370495 ≡ pos (b % 9223372036854775808) = omega (arith, ints, l, h) in
          ap (λ (z : ℤ). z +ℤ pos 4503599627370495) r ∙ sum
      | inr h ↦
          let k : ℕ = 4503599627370494 - b in
          let low : k < 9223372036854775808 = omega arith in
          let left : (b + 18442240474082181121) % 18446744073709551616 + suc k ≡ 18446744073709551616 = omega (arith, l, h) in
          let r : to_z w64 ((b + 18442240474082181121) % 18446744073709551616) ≡ negsuc k = below_zero b k left low in
          let sum : negsuc k +ℤ pos 4503599627370495 ≡ pos (b % 9223372036854775808) = omega (arith, ints, l, h) in
          ap (λ (z : ℤ). z +ℤ pos 4503599627370495) r ∙ sum
    ]

pub returns : goal.returns
returns c =
    let b : ℕ = c.args.bits in
    let small : b < 18446744073709551616 = omega (arith, c.ranges.bits.fits) in
    let t : ℕ = c.if-bits-ge-SIGN_64.turned in
    elim c.if-bits-ge-SIGN_64.branch [
      | then-bits-ge-SIGN_64 w ↦
          let sign : 9223372036854775808 ≤ b = w.if-bits-ge-SIGN_64.true in
          let turned : t + b ≡ 27670116110564327423 = omega (arith, w.turned-is, sign, small) in
          let same : of_z w64 c.cast_signed.result ≡ t = ap (of_z w64) c.cast_signed.ensures ∙ of_z-to_z w64 t (omega (arith, turned, sign)) in
          subst (λ (x : ℕ). storage_of_rank binary64 (to_z w64 ((x + 18442240474082181121) % 18446744073709551616)) ≡ storage_of_bits binary64 b) (sym same)
          (rank_with_sign binary64 b (to_z w64 ((t + 18442240474082181121) % 18446744073709551616)) sign (with_sign b t sign small turned) (nan_with_sign b t sign small turned))
      | else-bits-ge-SIGN_64 w ↦
          let none : b < 9223372036854775808 = w.if-bits-ge-SIGN_64.false in
          let turned : t ≡ b = w.turned-is in
          let same : of_z w64 c.cast_signed.result ≡ b = ap (of_z w64) c.cast_signed.ensures ∙ of_z-to_z w64 t (omega (arith, turned, none)) ∙ turned in
          subst (λ (x : ℕ). storage_of_rank binary64 (to_z w64 ((x + 18442240474082181121) % 18446744073709551616)) ≡ storage_of_bits binary64 b) (sym same)
          (rank_without_sign binary64 b (to_z w64 ((b + 18442240474082181121) % 18446744073709551616)) none (without_sign b none))
    ]
