use Rattle.std.proofs.Common.{◌+◌, None, arith}
use Rattle.arrow_columns.specs.Bitmaps.{bit_of}
use Rattle.vortex_value.specs.Order.{truth_cmp}
use Rattle.vortex_value.specs.Values.Content.{truth}
use Rattle.vortex_value.specs.Values.Scalars.{scalar_content}
use Rattle.column_kernels.specs.Rows.{content_compared, option_of}
use Rattle.column_kernels.specs.Truths.{compared}
use Rattle.column_kernels.proofs.RowTests.{boolean-compared, boolean-unordered, row-told}
use Rattle.column_kernels.proofs.comparing.compare_boolean_rows.Goals as goal

pub returns-in-Some-clause-truth : goal.returns-in-Some-clause-truth
returns-in-Some-clause-truth c = λ row below.
    let rows = c.args.rows.now in
    let column = rows.column in
    row-told (λ x. option_of (content_compared c.args.operator x (scalar_content c.args.literal.now))) truth (compared c.args.operator (λ b. truth_cmp b c.in-Some.value)) column.validity.now (λ i. bit_of column.values.now i) column.offset column.length (c.args.from + row) _ (omega (arith, below, c.requires.range))
    (boolean-compared c.args.operator (scalar_content c.args.literal.now) c.in-Some.value c.in-Some.ensures) (c.compare_booleans.ensures.truth row below)

pub returns-in-None-clause-truth : goal.returns-in-None-clause-truth
returns-in-None-clause-truth c = λ row below.
    let rows = c.args.rows.now in
    let column = rows.column in
    row-told (λ x. option_of (content_compared c.args.operator x (scalar_content c.args.literal.now))) truth (λ cell. None) column.validity.now (λ i. bit_of column.values.now i) column.offset column.length (c.args.from + row) _ (omega (arith, below, c.requires.range))
    (boolean-unordered c.args.operator (scalar_content c.args.literal.now) c.in-None.ensures) (c.fill_words.ensures.rows row (omega (arith, below, c.requires.words)))
