use Rattle.std.proofs.Common.{◌≡◌, ◌==◌, ◌+◌, arith, false, length, rules, true}
use Rattle.column_kernels.proofs.CellSteps.{marked, stays}
use Rattle.column_kernels.proofs.validity.mark_null_rows.Goals as goal

pub returns-then-not-is_empty-clause-truth : goal.returns-then-not-is_empty-clause-truth
returns-then-not-is_empty-clause-truth c = λ row below.
    let column = c.args.column in
    let some : (length column.validity.now == 0) ≡ false = search rules in
    marked column.validity.now (column.offset + c.args.from + row) (column.offset + (c.args.from + row)) _ _ some (omega arith) (c.mark_nulls.ensures.rows row below)

pub returns-else-not-is_empty-clause-truth : goal.returns-else-not-is_empty-clause-truth
returns-else-not-is_empty-clause-truth c = λ row below.
    let validity = c.args.column.validity.now in
    let none : (length validity == 0) ≡ true = search rules in
    stays validity _ _ none
