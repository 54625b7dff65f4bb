use mir.Syntax.{w128}
use Rattle.std.proofs.Common.{◌≡◌, ◌∙◌, ◌+◌, None, Some, ap, arith, of_z, to_z, ℤ}
use Rattle.std.proofs.lemmas.Int.{ints}
use Rattle.std.specs.Ordering.{int_cmp}
use Rattle.arrow_columns.specs.Formats.{items_of}
use Rattle.arrow_columns.specs.Integers.{item_at, number_of, width_of_item}
use Rattle.column_cells.specs.Contents.{stored_content}
use Rattle.vortex_value.specs.Values.Scalars.{scalar_content}
use Rattle.column_kernels.specs.Rows.{content_compared, number_in, option_of}
use Rattle.column_kernels.specs.Truths.{compared, number_cell}
use Rattle.column_kernels.proofs.RowTests.{number-compared, number-unordered, numbers-told, row-told, stored-as-numbers}
use Rattle.column_kernels.proofs.comparing.compare_stored_numbers.Goals as goal

pub returns-in-Some-clause-truth : goal.returns-in-Some-clause-truth
returns-in-Some-clause-truth c = λ row below.
    let rows = c.args.rows.now in
    let column = rows.column in
    let number : ℤ = to_z w128 (of_z w128 c.in-Some.number) in
    let same : number ≡ c.in-Some.number = omega (arith, ints) in
    let given : Some number ≡ number_in (scalar_content c.args.literal.now) = ap Some same ∙ c.in-Some.ensures in
    row-told (λ x. option_of (content_compared c.args.operator x (scalar_content c.args.literal.now))) (stored_content rows.format) (compared c.args.operator (λ z. int_cmp z number)) column.validity.now (λ i. number_of (items_of rows.format) (item_at (width_of_item (items_of rows.format)) column.values.now i)) column.offset column.length (c.args.from + row) _ (omega (arith, below, c.requires.range))
    (number-compared c.args.operator (stored_content rows.format) (scalar_content c.args.literal.now) number (stored-as-numbers rows.format c.requires.stored) given) (numbers-told (λ kind column. compared c.args.operator (λ z. int_cmp z number) (number_cell (width_of_item kind) kind column (c.args.from + row))) _ (items_of rows.format) _ column _ c.numbers.ensures.kind c.numbers.ensures.column (c.compare_numbers.ensures.truth row below))

pub returns-in-None-clause-truth : goal.returns-in-None-clause-truth
returns-in-None-clause-truth c = λ row below.
    let rows = c.args.rows.now in
    let column = rows.column in
    row-told (λ x. option_of (content_compared c.args.operator x (scalar_content c.args.literal.now))) (stored_content rows.format) (λ cell. None) column.validity.now (λ i. number_of (items_of rows.format) (item_at (width_of_item (items_of rows.format)) column.values.now i)) column.offset column.length (c.args.from + row) _ (omega (arith, below, c.requires.range))
    (number-unordered c.args.operator (stored_content rows.format) (scalar_content c.args.literal.now) (stored-as-numbers rows.format c.requires.stored) c.in-None.ensures) (c.fill_words.ensures.rows row (omega (arith, below, c.requires.words)))
