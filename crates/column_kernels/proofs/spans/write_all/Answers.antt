use Rattle.std.proofs.Common.{◌+◌, Bool, Option, Some, ℕ}
use Rattle.arrow_columns.specs.Columns.{offset_in}
use Rattle.arrow_columns.specs.Offsets.{bytes_between}
use Rattle.arrow_columns.specs.declared.offset_width.OffsetWidth.{OffsetWidth}
use Rattle.arrow_columns.specs.declared.offset_width.OffsetWidth.TheVariants.{Bits32, Bits64}
use Rattle.column_kernels.proofs.CellSteps.{with-known}
use Rattle.column_kernels.proofs.spans.write_all.Goals as goal

pub returns-in-Bits32-clause-truth : goal.returns-in-Bits32-clause-truth
returns-in-Bits32-clause-truth g c =
    let column = c.args.rows.now.column in
    let says : OffsetWidth → ℕ → Option Bool = λ width row. Some (g.T.ByteTest.says c.args.test.now (bytes_between column.values.now (offset_in width column) (column.offset + (c.args.from + row)))) in
    with-known says c.args.rows.now.width Bits32 c.args.count _ c.in-Bits32.is c.write_spans.ensures.truth

pub returns-in-Bits64-clause-truth : goal.returns-in-Bits64-clause-truth
returns-in-Bits64-clause-truth g c =
    let column = c.args.rows.now.column in
    let says : OffsetWidth → ℕ → Option Bool = λ width row. Some (g.T.ByteTest.says c.args.test.now (bytes_between column.values.now (offset_in width column) (column.offset + (c.args.from + row)))) in
    with-known says c.args.rows.now.width Bits64 c.args.count _ c.in-Bits64.is c.write_spans-in-Bits64.ensures.truth
