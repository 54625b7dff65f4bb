use Rattle.std.proofs.Common.{◌+◌, List, ℕ}
use Rattle.arrow_columns.specs.Columns.{offset_in}
use Rattle.arrow_columns.specs.Offsets.{bytes_between}
use Rattle.truth_bitmaps.specs.Truths.{truth_at}
use Rattle.column_kernels.proofs.CellSteps.{test-marked}
use Rattle.column_kernels.proofs.spans.test_spans.Goals as goal

pub returns-clause-truth : goal.returns-clause-truth
returns-clause-truth g c = λ row below.
    let column = c.args.rows.now.column in
    let value : ℕ → List ℕ = bytes_between column.values.now (offset_in c.args.rows.now.width column) in
    test-marked (g.T.ByteTest.says c.args.test.now) column.validity.now value (column.offset + (c.args.from + row)) (truth_at c.write_all.new.words row) _ (c.mark_null_rows.ensures.truth row below) (c.write_all.ensures.truth row below)
