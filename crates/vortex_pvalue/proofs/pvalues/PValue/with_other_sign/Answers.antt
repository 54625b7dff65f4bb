-- The bits of an unsigned number, read as a signed one, are its wrapped number.
use Rattle.std.proofs.Common.{rules, ◌<◌, ◌^◌}
use Rattle.std.specs.Int.{w8, w16, w32, w64}
use Rattle.vortex_pvalue.proofs.WrappedNumbers.{signed_low}
use Rattle.vortex_pvalue.proofs.pvalues.PValue.with_other_sign.Goals as goal

pub returns-in-U8-clause-wrapped : goal.returns-in-U8-clause-wrapped
returns-in-U8-clause-wrapped c =
    let fits : c.in-U8.n < 2 ^ 8 = search rules in
    rw c.in-U8.is (signed_low w8 c.in-U8.n c.cast_signed.result fits c.cast_signed.ensures)

pub returns-in-U16-clause-wrapped : goal.returns-in-U16-clause-wrapped
returns-in-U16-clause-wrapped c =
    let fits : c.in-U16.n < 2 ^ 16 = search rules in
    rw c.in-U16.is (signed_low w16 c.in-U16.n c.cast_signed-in-U16.result fits c.cast_signed-in-U16.ensures)

pub returns-in-U32-clause-wrapped : goal.returns-in-U32-clause-wrapped
returns-in-U32-clause-wrapped c =
    let fits : c.in-U32.n < 2 ^ 32 = search rules in
    rw c.in-U32.is (signed_low w32 c.in-U32.n c.cast_signed-in-U32.result fits c.cast_signed-in-U32.ensures)

pub returns-in-U64-clause-wrapped : goal.returns-in-U64-clause-wrapped
returns-in-U64-clause-wrapped c =
    let fits : c.in-U64.n < 2 ^ 64 = search rules in
    rw c.in-U64.is (signed_low w64 c.in-U64.n c.cast_signed-in-U64.result fits c.cast_signed-in-U64.ensures)
