use Rattle.std.proofs.Common.{◌+◌, ap, arith}
use Rattle.column_cells.specs.Types.{type_of_rows}
use Rattle.vortex_cells.specs.Cells.{cell_of}
use Rattle.vortex_dtype.specs.TypeOf.{type_of}
use Rattle.vortex_value.specs.Values.Scalars.{scalar_type}
use Rattle.column_kernels.specs.Rows.{cell_of_row}
use Rattle.column_kernels.proofs.RowTests.{other-begins, same-begins, type-told}
use Rattle.column_kernels.proofs.beginning.test_prefix_of_rows.Goals as goal

pub returns-then-is_type_of_rows-clause-truth : goal.returns-then-is_type_of_rows-clause-truth
returns-then-is_type_of_rows-clause-truth c = λ row below.
    same-begins (cell_of_row c.args.rows.now (c.args.from + row)) (cell_of c.args.prefix.now) _
    (type-told _ _ (type_of_rows c.args.rows.now) (type_of c.dtype.result.now) (scalar_type c.args.prefix.now) (ap type_of c.dtype.ensures) c.is_type_of_rows.ensures c.if-is_type_of_rows.true)
    (c.test_contents.ensures.truth row below)

pub returns-else-is_type_of_rows-clause-truth : goal.returns-else-is_type_of_rows-clause-truth
returns-else-is_type_of_rows-clause-truth c = λ row below.
    other-begins (cell_of_row c.args.rows.now (c.args.from + row)) (cell_of c.args.prefix.now) _
    (type-told _ _ (type_of_rows c.args.rows.now) (type_of c.dtype.result.now) (scalar_type c.args.prefix.now) (ap type_of c.dtype.ensures) c.is_type_of_rows.ensures c.if-is_type_of_rows.false)
    (c.fill_words.ensures.rows row (omega (arith, below, c.requires.words)))
