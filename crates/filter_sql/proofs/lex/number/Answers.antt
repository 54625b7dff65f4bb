-- The word of the number is cut off where the rest begins.
use Rattle.std.proofs.Common.{◌≡◌, ◌∙◌, ap, sym, Some}
use Rattle.filter_sql.specs.Lexing.{after_minus, after_number}
use Rattle.filter_sql.proofs.Taken.{number_seam}
use Rattle.filter_sql.proofs.lex.number.Goals as goal

pub overflow_sub-text : goal.overflow_sub-text
overflow_sub-text c =
    let read : after_number (after_minus c.args.text.now) ≡ Some c.in-Some.after.now = ap after_number (sym c.after_minus.ensures) ∙ sym c.in-Some.ensures in
    (number_seam c.args.text.now c.in-Some.after.now read c.utf8.text).0

pub range-requires-clause-end_boundary : goal.range-requires-clause-end_boundary
range-requires-clause-end_boundary c =
    let read : after_number (after_minus c.args.text.now) ≡ Some c.in-Some.after.now = ap after_number (sym c.after_minus.ensures) ∙ sym c.in-Some.ensures in
    (number_seam c.args.text.now c.in-Some.after.now read c.utf8.text).1
