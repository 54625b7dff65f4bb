use Rattle.std.proofs.Common.{refl, arith}
use Rattle.std.proofs.Output.{has_written_append}
use Rattle.filter_sql.proofs.Characters.{digits_text}
use Rattle.filter_sql.proofs.print.write_bytes.Goals as goal

pub returns : goal.returns
returns g c plain ok =
    let opened = c.in_ok-write_str.ensures.writes plain refl in
    let digits = c.in_ok-write_digits.ensures opened.plain refl in
    let closed = c.write_str-2.ensures.writes digits.plain ok in
    rw (← digits_text c.args.bytes.now (λ k below. omega (arith, c.type_inv.bytes k)))
    (has_written_append _ _ _ _ _ _ opened (has_written_append _ _ _ _ _ _ digits closed))
