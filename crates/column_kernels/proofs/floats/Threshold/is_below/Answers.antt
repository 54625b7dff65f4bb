use Rattle.std.proofs.Common.{◌≡◌, ◌∙◌, ◌||◌, ◌+◌, ◌%◌, Bool, ap, arith, int_lt, of_z, subst, sym, to_z, w64, ℕ, ℤ}
use Rattle.std.proofs.lemmas.Int.{ints, of_z-to_z}
use Rattle.std.specs.Float.{binary64}
use Rattle.float_storage.specs.Storage.{storage_of_bits}
use Rattle.column_kernels.proofs.FloatSteps.{threshold-told}
use Rattle.column_kernels.proofs.floats.Threshold.is_below.Goals as goal

pub returns : goal.returns
returns c =
    let threshold = c.args.self in
    let bits = c.args.bits in
    let word : of_z w64 c.cast_signed-signed.result ≡ bits = ap (of_z w64) c.cast_signed-signed.ensures ∙ of_z-to_z w64 bits (omega (arith, c.ranges.bits.fits)) in
    let positive : to_z w64 (of_z w64 threshold.positive) ≡ threshold.positive = omega (arith, ints) in
    let negative : to_z w64 (of_z w64 threshold.negative) ≡ threshold.negative = omega (arith, ints) in
    let two : ℤ → ℕ → ℤ → Bool = λ a n d. int_lt a (to_z w64 n) || int_lt (to_z w64 ((n + 9227875636482146303) % 18446744073709551616)) d in
    ap (λ a. two a (of_z w64 c.cast_signed-signed.result) (to_z w64 (of_z w64 threshold.negative))) positive
    ∙ ap (λ n. two threshold.positive n (to_z w64 (of_z w64 threshold.negative))) word
    ∙ ap (two threshold.positive bits) negative
    ∙ threshold-told bits threshold.storage threshold.positive threshold.negative (omega (arith, c.ranges.bits.fits)) threshold.is_no_nan threshold.is_positive threshold.is_negative
