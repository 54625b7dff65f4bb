use mir.Syntax.{w128}
use Rattle.std.proofs.Common.{◌≡◌, ◌∙◌, ◌+◌, None, Some, ap, arith, of_z, refl, to_z, ℤ}
use Rattle.std.proofs.lemmas.Int.{ints}
use Rattle.std.specs.Ordering.{int_cmp}
use Rattle.arrow_columns.specs.Integers.{integer_of, item_at, width_of}
use Rattle.vortex_value.specs.Values.Content.{whole}
use Rattle.vortex_value.specs.Values.Scalars.{scalar_content}
use Rattle.column_kernels.specs.Rows.{content_compared, number_in, option_of}
use Rattle.column_kernels.specs.Truths.{compared}
use Rattle.column_kernels.proofs.RowTests.{number-compared, number-unordered, row-told}
use Rattle.column_kernels.proofs.comparing.compare_integer_rows.Goals as goal

pub returns-in-Some-clause-truth : goal.returns-in-Some-clause-truth
returns-in-Some-clause-truth c = λ row below.
    let rows = c.args.rows.now in
    let column = rows.column in
    let number : ℤ = to_z w128 (of_z w128 c.in-Some.number) in
    let same : number ≡ c.in-Some.number = omega (arith, ints) in
    let given : Some number ≡ number_in (scalar_content c.args.literal.now) = ap Some same ∙ c.in-Some.ensures in
    row-told (λ x. option_of (content_compared c.args.operator x (scalar_content c.args.literal.now))) whole (compared c.args.operator (λ z. int_cmp z number)) column.validity.now (λ i. integer_of rows.kind (item_at (width_of rows.kind) column.values.now i)) column.offset column.length (c.args.from + row) _ (omega (arith, below, c.requires.range))
    (number-compared c.args.operator whole (scalar_content c.args.literal.now) number (λ z. refl) given) (c.compare_numbers.ensures.truth row below)

pub returns-in-None-clause-truth : goal.returns-in-None-clause-truth
returns-in-None-clause-truth c = λ row below.
    let rows = c.args.rows.now in
    let column = rows.column in
    row-told (λ x. option_of (content_compared c.args.operator x (scalar_content c.args.literal.now))) whole (λ cell. None) column.validity.now (λ i. integer_of rows.kind (item_at (width_of rows.kind) column.values.now i)) column.offset column.length (c.args.from + row) _ (omega (arith, below, c.requires.range))
    (number-unordered c.args.operator whole (scalar_content c.args.literal.now) (λ z. refl) c.in-None.ensures) (c.fill_words.ensures.rows row (omega (arith, below, c.requires.words)))
