use Rattle.std.proofs.Common.{◌<◌, ℕ, subst}
use Rattle.arrow_columns.specs.Columns.{IsByteColumn}
use Rattle.arrow_columns.specs.Errors.{AreTextRows, IsTextRow}
use Rattle.arrow_columns.proofs.checking.string_rows.Goals as goal

pub returns-in-Some-clause-fault : goal.returns-in-Some-clause-fault
returns-in-Some-clause-fault c =
    let row : ℕ = c.in-Some.row in
    let rows = c.in_ok-rows.rows in
    subst (λ k. IsByteColumn c.args.width k × (row < k.length) × AreTextRows c.args.width k row × ¬ (IsTextRow c.args.width k row)) c.in_ok-rows.ensures.rows.1
    (subst (λ w. IsByteColumn w rows.column × (row < rows.column.length) × AreTextRows w rows.column row × ¬ (IsTextRow w rows.column row)) c.in_ok-rows.ensures.rows.0
    (rows.is_column, c.in-Some.ensures.0, c.in-Some.ensures.1, c.in-Some.ensures.2))
