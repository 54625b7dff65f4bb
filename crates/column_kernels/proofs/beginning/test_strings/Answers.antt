use Rattle.std.proofs.Common.{◌+◌, None, arith, nat_eq}
use Rattle.std.specs.List.{starts_with}
use Rattle.arrow_columns.specs.Columns.{offset_in}
use Rattle.arrow_columns.specs.Offsets.{bytes_between}
use Rattle.vortex_value.specs.Values.Content.{text}
use Rattle.vortex_value.specs.Values.Scalars.{scalar_content}
use Rattle.vortex_filter.specs.Prefixes.{begins, begins_truth}
use Rattle.column_kernels.specs.Rows.{option_of}
use Rattle.column_kernels.specs.Truths.{tested}
use Rattle.column_kernels.proofs.RowTests.{row-told, text-begins, text-unprefixed}
use Rattle.column_kernels.proofs.beginning.test_strings.Goals as goal

pub returns-in-Some-clause-truth : goal.returns-in-Some-clause-truth
returns-in-Some-clause-truth c = λ row below.
    let rows = c.args.rows.now in
    let column = rows.column in
    row-told (λ x. option_of (begins_truth (begins x (scalar_content c.args.prefix.now)))) text (tested (λ bytes. starts_with nat_eq bytes c.in-Some.text.now)) column.validity.now (λ i. bytes_between column.values.now (offset_in rows.width column) i) column.offset column.length (c.args.from + row) _ (omega (arith, below, c.requires.range))
    (text-begins (scalar_content c.args.prefix.now) c.in-Some.text.now c.in-Some.ensures) (c.test_prefix.ensures.truth row below)

pub returns-in-None-clause-truth : goal.returns-in-None-clause-truth
returns-in-None-clause-truth c = λ row below.
    let rows = c.args.rows.now in
    let column = rows.column in
    row-told (λ x. option_of (begins_truth (begins x (scalar_content c.args.prefix.now)))) text (λ cell. None) column.validity.now (λ i. bytes_between column.values.now (offset_in rows.width column) i) column.offset column.length (c.args.from + row) _ (omega (arith, below, c.requires.range))
    (text-unprefixed (scalar_content c.args.prefix.now) c.in-None.ensures) (c.fill_words.ensures.rows row (omega (arith, below, c.requires.words)))
