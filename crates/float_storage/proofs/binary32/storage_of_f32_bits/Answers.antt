use Rattle.std.proofs.Common.{◌≡◌, ◌∙◌, sym, arith, ℕ, ◌%◌, pos, w32, to_z, of_z, ◌-ℤ◌}
use Rattle.std.proofs.lemmas.Int.{ints}
use Rattle.std.specs.Float.{binary32}
use lib.IntN.{neg_ℤ}
use Rattle.float_storage.proofs.Order.{storage_by_size_nan, negative_storage, positive_storage}
use Rattle.float_storage.proofs.binary32.storage_of_f32_bits.Goals as goal

pub returns-then-size-gt-INFINITY-clause-value : goal.returns-then-size-gt-INFINITY-clause-value
returns-then-size-gt-INFINITY-clause-value c = sym (storage_by_size_nan binary32 c.args.bits c.if-size-gt-INFINITY.true)

pub returns-then-bits-ge-SIGN-clause-value : goal.returns-then-bits-ge-SIGN-clause-value
returns-then-bits-ge-SIGN-clause-value c =
    let e : to_z w32 (of_z w32 (pos 0 -ℤ to_z w32 (c.args.bits % 2147483648))) ≡ neg_ℤ (pos (c.args.bits % 2147483648)) = omega (arith, ints) in
    e ∙ sym (negative_storage binary32 c.args.bits c.if-size-gt-INFINITY.false c.if-bits-ge-SIGN.true)

pub returns-else-bits-ge-SIGN-clause-value : goal.returns-else-bits-ge-SIGN-clause-value
returns-else-bits-ge-SIGN-clause-value c =
    let e : to_z w32 (c.args.bits % 2147483648) ≡ pos (c.args.bits % 2147483648) = omega (arith, ints) in
    e ∙ sym (positive_storage binary32 c.args.bits c.if-size-gt-INFINITY.false c.if-bits-ge-SIGN.false)
