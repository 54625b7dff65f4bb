use Rattle.std.proofs.Common.{◌+◌, None, arith, refl}
use Rattle.std.specs.Cmp.Lexicographic.{slice_cmp}
use Rattle.std.specs.Ordering.{nat_cmp}
use Rattle.arrow_columns.specs.Columns.{offset_in}
use Rattle.arrow_columns.specs.Offsets.{bytes_between}
use Rattle.vortex_value.specs.Values.Content.{string}
use Rattle.vortex_value.specs.Values.Scalars.{scalar_content}
use Rattle.column_kernels.specs.Rows.{content_compared, option_of}
use Rattle.column_kernels.specs.Truths.{compared}
use Rattle.column_kernels.proofs.RowTests.{bytes-compared, bytes-unordered, row-told}
use Rattle.column_kernels.proofs.comparing.compare_byte_rows.Goals as goal

pub returns-in-Some-clause-truth : goal.returns-in-Some-clause-truth
returns-in-Some-clause-truth c = λ row below.
    let rows = c.args.rows.now in
    let column = rows.column in
    row-told (λ x. option_of (content_compared c.args.operator x (scalar_content c.args.literal.now))) string (compared c.args.operator (λ bytes. slice_cmp nat_cmp bytes c.in-Some.bytes.now)) column.validity.now (λ i. bytes_between column.values.now (offset_in rows.width column) i) column.offset column.length (c.args.from + row) _ (omega (arith, below, c.requires.range))
    (bytes-compared c.args.operator string (λ bytes. bytes) (scalar_content c.args.literal.now) c.in-Some.bytes.now (λ bytes. refl) c.in-Some.ensures) (c.compare_bytes.ensures.truth row below)

pub returns-in-None-clause-truth : goal.returns-in-None-clause-truth
returns-in-None-clause-truth c = λ row below.
    let rows = c.args.rows.now in
    let column = rows.column in
    row-told (λ x. option_of (content_compared c.args.operator x (scalar_content c.args.literal.now))) string (λ cell. None) column.validity.now (λ i. bytes_between column.values.now (offset_in rows.width column) i) column.offset column.length (c.args.from + row) _ (omega (arith, below, c.requires.range))
    (bytes-unordered c.args.operator string (λ bytes. bytes) (scalar_content c.args.literal.now) (λ bytes. refl) c.in-None.ensures) (c.fill_words.ensures.rows row (omega (arith, below, c.requires.words)))
