use Rattle.std.proofs.Common.{◌≡◌, ◌==◌, ◌+◌, arith, false, length, rules, true}
use Rattle.column_kernels.proofs.CellSteps.{no-null, null-told}
use Rattle.column_kernels.proofs.validity.test_validity.Goals as goal

pub returns-then-is_empty-clause-truth : goal.returns-then-is_empty-clause-truth
returns-then-is_empty-clause-truth c = λ row below.
    let validity = c.args.column.validity.now in
    let none : (length validity == 0) ≡ true = search rules in
    no-null validity _ _ none (c.fill_words.ensures.rows row (omega (arith, c.requires.words)))

pub returns-else-is_empty-clause-truth : goal.returns-else-is_empty-clause-truth
returns-else-is_empty-clause-truth c = λ row below.
    let column = c.args.column in
    let some : (length column.validity.now == 0) ≡ false = search rules in
    null-told column.validity.now (column.offset + c.args.from + row) (column.offset + (c.args.from + row)) _ some (omega arith) (c.write_bits.ensures.rows row below)
