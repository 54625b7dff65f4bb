use Rattle.std.proofs.Common.{◌≡◌, ◌∙◌, ◌≤◌, ◌<◌, ◌%◌, ◌+◌, ◌-◌, ℕ, ℤ, pos, negsuc, suc, inl, inr, ◌+ℤ◌, ◌≤ℤ◌, ap, arith, of_z, subst, sym, to_z, w32}
use Rattle.std.proofs.lemmas.Int.{ints, of_z-to_z}
use Rattle.std.specs.Float.{binary32}
use lib.IntN.{neg_ℤ}
use mir.Facts.{to_z-neg}
use Rattle.arrow_columns.specs.Ranks.{storage_of_rank}
use Rattle.float_storage.specs.Storage.{storage_of_bits}
use Rattle.arrow_columns.proofs.RankSteps.{rank_with_sign, rank_without_sign, size}
use Rattle.arrow_columns.proofs.ranks.rank_of_f32_bits.Goals as goal
use Rattle.arrow_columns.proofs.ranks.rank_of_f32_bits.Goals.{else-bits-ge-SIGN_32, then-bits-ge-SIGN_32}

-- what is left of t less so many at a type with a sign
below_zero : (t k : ℕ) → (t + 4286578689) % 4294967296 + suc k ≡ 4294967296 → k < 2147483648 → to_z w32 ((t + 4286578689) % 4294967296) ≡ negsuc k
below_zero t k e h =
    let q : (t + 4286578689) % 4294967296 ≡ 4294967296 - suc k = omega (arith, e) in
    ap (to_z w32) q ∙ to_z-neg w32 k h

from_zero : (t q : ℕ) → (t + 4286578689) % 4294967296 ≡ q → q < 2147483648 → to_z w32 ((t + 4286578689) % 4294967296) ≡ pos q
from_zero t q e h =
    let small : to_z w32 q ≡ pos q = omega (arith, ints, h) in
    ap (to_z w32) e ∙ small

with_sign : (b t : ℕ) → 2147483648 ≤ b → b < 4294967296 → t + b ≡ 6442450943 → b % 2147483648 ≤ 2139095040
    → (to_z w32 ((t + 4286578689) % 4294967296) +ℤ pos 8388607) +ℤ pos 1 ≡ neg_ℤ (pos (b % 2147483648))
with_sign b t s l e h =
    let k : ℕ = b % 2147483648 + 8388607 in
    let low : k < 2147483648 = omega (arith, h) in
    let left : (t + 4286578689) % 4294967296 + suc k ≡ 4294967296 = omega (arith, s, l, e, h) in
    let r : to_z w32 ((t + 4286578689) % 4294967296) ≡ negsuc k = below_zero t k left low in
    let sum : (negsuc k +ℤ pos 8388607) +ℤ pos 1 ≡ neg_ℤ (pos (b % 2147483648)) = omega (arith, ints) in
    ap (λ (z : ℤ). (z +ℤ pos 8388607) +ℤ pos 1) r ∙ sum

nan_with_sign : (b t : ℕ) → 2147483648 ≤ b → b < 4294967296 → t + b ≡ 6442450943 → 2139095040 < b % 2147483648
    → pos 2139095041 ≤ℤ (to_z w32 ((t + 4286578689) % 4294967296) +ℤ pos 8388607)
nan_with_sign b t s l e h =
    let q : ℕ = 4286578688 - b % 2147483648 in
    let low : q < 2147483648 = omega (arith, h) in
    let left : (t + 4286578689) % 4294967296 ≡ q = omega (arith, s, l, e, h) in
    let r : to_z w32 ((t + 4286578689) % 4294967296) ≡ pos q = from_zero t q left low in
    omega (arith, ints, r, s, l, h)

without_sign : (b : ℕ) → b < 2147483648 → to_z w32 ((b + 4286578689) % 4294967296) +ℤ pos 8388607 ≡ pos (b % 2147483648)
without_sign b l =
    elim (size 8388607 b) [
      | inl h ↦
          let low : b - 8388607 < 2147483648 = omega (arith, l) in
          let left : (b + 4286578689) % 4294967296 ≡ b - 8388607 = omega (arith, l, h) in
          let r : to_z w32 ((b + 4286578689) % 4294967296) ≡ pos (b - 8388607) = from_zero b (b - 8388607) left low in
          let sum : pos (b - 8388607) +ℤ pos 8388607 ≡ pos (b % 2147483648) = omega (arith, ints, l, h) in
          ap (λ (z : ℤ). z +ℤ pos 8388607) r ∙ sum
      | inr h ↦
          let k : ℕ = 8388606 - b in
          let low : k < 2147483648 = omega arith in
          let left : (b + 4286578689) % 4294967296 + suc k ≡ 4294967296 = omega (arith, l, h) in
          let r : to_z w32 ((b + 4286578689) % 4294967296) ≡ negsuc k = below_zero b k left low in
          let sum : negsuc k +ℤ pos 8388607 ≡ pos (b % 2147483648) = omega (arith, ints, l, h) in
          ap (λ (z : ℤ). z +ℤ pos 8388607) r ∙ sum
    ]

pub returns : goal.returns
returns c =
    let b : ℕ = c.args.bits in
    let small : b < 4294967296 = omega (arith, c.ranges.bits.fits) in
    let t : ℕ = c.if-bits-ge-SIGN_32.turned in
    elim c.if-bits-ge-SIGN_32.branch [
      | then-bits-ge-SIGN_32 w ↦
          let sign : 2147483648 ≤ b = w.if-bits-ge-SIGN_32.true in
          let turned : t + b ≡ 6442450943 = omega (arith, w.turned-is, sign, small) in
          let same : of_z w32 c.cast_signed.result ≡ t = ap (of_z w32) c.cast_signed.ensures ∙ of_z-to_z w32 t (omega (arith, turned, sign)) in
          subst (λ (x : ℕ). storage_of_rank binary32 (to_z w32 ((x + 4286578689) % 4294967296)) ≡ storage_of_bits binary32 b) (sym same)
          (rank_with_sign binary32 b (to_z w32 ((t + 4286578689) % 4294967296)) sign (with_sign b t sign small turned) (nan_with_sign b t sign small turned))
      | else-bits-ge-SIGN_32 w ↦
          let none : b < 2147483648 = w.if-bits-ge-SIGN_32.false in
          let turned : t ≡ b = w.turned-is in
          let same : of_z w32 c.cast_signed.result ≡ b = ap (of_z w32) c.cast_signed.ensures ∙ of_z-to_z w32 t (omega (arith, turned, none)) ∙ turned in
          subst (λ (x : ℕ). storage_of_rank binary32 (to_z w32 ((x + 4286578689) % 4294967296)) ≡ storage_of_bits binary32 b) (sym same)
          (rank_without_sign binary32 b (to_z w32 ((b + 4286578689) % 4294967296)) none (without_sign b none))
    ]
