use Rattle.std.proofs.Common.{◌+◌, None, arith}
use Rattle.std.specs.Cmp.Lexicographic.{slice_cmp}
use Rattle.std.specs.Ordering.{nat_cmp}
use Rattle.arrow_columns.specs.Columns.{offset_in}
use Rattle.arrow_columns.specs.Offsets.{bytes_between}
use Rattle.vortex_value.specs.Values.Content.{text}
use Rattle.vortex_value.specs.Values.Scalars.{scalar_content}
use Rattle.column_kernels.specs.Rows.{content_compared, option_of}
use Rattle.column_kernels.specs.Truths.{compared}
use Rattle.column_kernels.proofs.RowTests.{row-told, text-compared, text-unordered}
use Rattle.column_kernels.proofs.comparing.compare_strings.Goals as goal

pub returns-in-Some-clause-truth : goal.returns-in-Some-clause-truth
returns-in-Some-clause-truth c = λ row below.
    let rows = c.args.rows.now in
    let column = rows.column in
    row-told (λ x. option_of (content_compared c.args.operator x (scalar_content c.args.literal.now))) text (compared c.args.operator (λ bytes. slice_cmp nat_cmp bytes c.in-Some.text.now)) column.validity.now (λ i. bytes_between column.values.now (offset_in rows.width column) i) column.offset column.length (c.args.from + row) _ (omega (arith, below, c.requires.range))
    (text-compared c.args.operator (scalar_content c.args.literal.now) c.in-Some.text.now c.in-Some.ensures) (c.compare_bytes.ensures.truth row below)

pub returns-in-None-clause-truth : goal.returns-in-None-clause-truth
returns-in-None-clause-truth c = λ row below.
    let rows = c.args.rows.now in
    let column = rows.column in
    row-told (λ x. option_of (content_compared c.args.operator x (scalar_content c.args.literal.now))) text (λ cell. None) column.validity.now (λ i. bytes_between column.values.now (offset_in rows.width column) i) column.offset column.length (c.args.from + row) _ (omega (arith, below, c.requires.range))
    (text-unordered c.args.operator (scalar_content c.args.literal.now) c.in-None.ensures) (c.fill_words.ensures.rows row (omega (arith, below, c.requires.words)))
