use Rattle.std.proofs.Common.{◌∙◌, ◌+◌, ap, arith, sym}
use Rattle.std.specs.List.{list_any}
use Rattle.std.specs.Str.{bytes_eq}
use Rattle.arrow_columns.specs.Columns.{offset_in}
use Rattle.arrow_columns.specs.Offsets.{bytes_between}
use Rattle.arrow_columns.specs.declared.tested_rows.Rows.TheVariants.{Bytes, Strings}
use Rattle.vortex_value.specs.Values.Content.{string, text}
use Rattle.column_kernels.specs.Members.{bytes_of_row}
use Rattle.column_kernels.specs.Truths.{tested}
use Rattle.column_kernels.proofs.MemberSteps.{members-told}
use Rattle.column_kernels.proofs.RowTests.{counted, range-known}
use Rattle.column_kernels.proofs.members.write_listed.Goals as goal

pub test_spans-requires-clause-range : goal.test_spans-requires-clause-range
test_spans-requires-clause-range c =
    let spans = c.in-Strings.spans in
    let column = spans.column in
    counted text column.validity.now (bytes_between column.values.now (offset_in spans.width column)) column.offset column.length (c.args.from + c.args.count) (range-known c.args.rows.now (Strings spans) (c.args.from + c.args.count) c.in-Strings.is c.requires.range)

pub returns-in-Strings-clause-truth : goal.returns-in-Strings-clause-truth
returns-in-Strings-clause-truth c = λ row below.
    let needles = c.in-Some.listed.needles in
    c.test_spans.ensures.truth row below ∙ ap (tested (λ bytes. list_any (λ needle. bytes_eq bytes needle.bytes.now) needles)) (sym (ap (λ r. bytes_of_row r (c.args.from + row)) c.in-Strings.is))
    ∙ members-told c.args.rows.now c.args.literals.now needles (c.args.from + row) (omega (arith, below, c.requires.range)) c.in-Some.ensures

pub test_spans-requires-in-Bytes-clause-range : goal.test_spans-requires-in-Bytes-clause-range
test_spans-requires-in-Bytes-clause-range c =
    let spans = c.in-Bytes.spans in
    let column = spans.column in
    counted string column.validity.now (bytes_between column.values.now (offset_in spans.width column)) column.offset column.length (c.args.from + c.args.count) (range-known c.args.rows.now (Bytes spans) (c.args.from + c.args.count) c.in-Bytes.is c.requires.range)

pub returns-in-Bytes-clause-truth : goal.returns-in-Bytes-clause-truth
returns-in-Bytes-clause-truth c = λ row below.
    let needles = c.in-Some.listed.needles in
    c.test_spans-in-Bytes.ensures.truth row below ∙ ap (tested (λ bytes. list_any (λ needle. bytes_eq bytes needle.bytes.now) needles)) (sym (ap (λ r. bytes_of_row r (c.args.from + row)) c.in-Bytes.is))
    ∙ members-told c.args.rows.now c.args.literals.now needles (c.args.from + row) (omega (arith, below, c.requires.range)) c.in-Some.ensures
