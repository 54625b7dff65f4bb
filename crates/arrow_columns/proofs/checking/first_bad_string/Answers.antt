use Rattle.std.proofs.Common.{◌<◌, MatchOption, subst, sym}
use Rattle.arrow_columns.specs.Errors.{AreTextRows, IsTextRow}
use Rattle.arrow_columns.proofs.checking.first_bad_string.Goals as goal

pub returns-in-Bits32 : goal.returns-in-Bits32
returns-in-Bits32 c =
    subst (λ w. MatchOption c.first_bad_text.result (AreTextRows w c.args.rows.column c.args.rows.column.length)
    (λ row. (row < c.args.rows.column.length) × AreTextRows w c.args.rows.column row × ¬ (IsTextRow w c.args.rows.column row)))
    (sym c.in-Bits32.is) c.first_bad_text.ensures

pub returns-in-Bits64 : goal.returns-in-Bits64
returns-in-Bits64 c =
    subst (λ w. MatchOption c.first_bad_text-in-Bits64.result (AreTextRows w c.args.rows.column c.args.rows.column.length)
    (λ row. (row < c.args.rows.column.length) × AreTextRows w c.args.rows.column row × ¬ (IsTextRow w c.args.rows.column row)))
    (sym c.in-Bits64.is) c.first_bad_text-in-Bits64.ensures
