use Rattle.std.proofs.Common.{◌≡◌, ◌∙◌, sym, arith, ℕ, ◌%◌, pos, w64, to_z, of_z, ◌-ℤ◌}
use Rattle.std.proofs.lemmas.Int.{ints}
use Rattle.std.specs.Float.{binary64}
use lib.IntN.{neg_ℤ}
use Rattle.float_storage.proofs.Order.{storage_by_size_nan, negative_storage, positive_storage}
use Rattle.float_storage.proofs.binary64.storage_of_f64_bits.Goals as goal

pub returns-then-size-gt-INFINITY-clause-value : goal.returns-then-size-gt-INFINITY-clause-value
returns-then-size-gt-INFINITY-clause-value c = sym (storage_by_size_nan binary64 c.args.bits c.if-size-gt-INFINITY.true)

pub returns-then-bits-ge-SIGN-clause-value : goal.returns-then-bits-ge-SIGN-clause-value
returns-then-bits-ge-SIGN-clause-value c =
    let e : to_z w64 (of_z w64 (pos 0 -ℤ to_z w64 (c.args.bits % 9223372036854775808))) ≡ neg_ℤ (pos (c.args.bits % 9223372036854775808)) = omega (arith, ints) in
    e ∙ sym (negative_storage binary64 c.args.bits c.if-size-gt-INFINITY.false c.if-bits-ge-SIGN.true)

pub returns-else-bits-ge-SIGN-clause-value : goal.returns-else-bits-ge-SIGN-clause-value
returns-else-bits-ge-SIGN-clause-value c =
    let e : to_z w64 (c.args.bits % 9223372036854775808) ≡ pos (c.args.bits % 9223372036854775808) = omega (arith, ints) in
    e ∙ sym (positive_storage binary64 c.args.bits c.if-size-gt-INFINITY.false c.if-bits-ge-SIGN.false)
