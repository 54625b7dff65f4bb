use Rattle.std.proofs.Common.{◌+◌, arith, refl, subst}
use Rattle.arrow_columns.specs.Columns.{offset_in}
use Rattle.arrow_columns.specs.Offsets.{bytes_between}
use Rattle.arrow_columns.specs.declared.tested_rows.Rows.TheVariants.{Booleans, Bytes, Integers, Nulls, Strings, Values}
use Rattle.column_cells.specs.Contents.{HasTexts}
use Rattle.vortex_filter.specs.PatternTests.{are_like, match_truth}
use Rattle.vortex_value.specs.Values.Content.{text}
use Rattle.column_kernels.specs.Rows.{option_of}
use Rattle.column_kernels.specs.Truths.{tested}
use Rattle.column_kernels.proofs.RowTests.{counted, logical-no-strings, matches-shown, no-strings, range-known, row-told, text-matches}
use Rattle.column_kernels.proofs.patterns.match_rows.Goals as goal

pub match_strings-requires-clause-range : goal.match_strings-requires-clause-range
match_strings-requires-clause-range c =
    let rows = c.in-Strings.rows in
    let column = rows.column in
    counted text column.validity.now (λ i. bytes_between column.values.now (offset_in rows.width column) i) column.offset column.length (c.args.from + c.args.count) (range-known c.args.rows.now (Strings rows) (c.args.from + c.args.count) c.in-Strings.is c.requires.range)

pub match_strings-requires-clause-texts : goal.match_strings-requires-clause-texts
match_strings-requires-clause-texts c = subst HasTexts c.in-Strings.is c.requires.texts

pub returns-in-Strings-clause-truth : goal.returns-in-Strings-clause-truth
returns-in-Strings-clause-truth c = λ row below.
    let rows = c.in-Strings.rows in
    let column = rows.column in
    let case = c.args.case in
    let parts = c.args.pattern.now in
    let within = counted text column.validity.now (λ i. bytes_between column.values.now (offset_in rows.width column) i) column.offset column.length (c.args.from + c.args.count) (range-known c.args.rows.now (Strings rows) (c.args.from + c.args.count) c.in-Strings.is c.requires.range) in
    matches-shown case parts c.args.rows.now (Strings rows) (c.args.from + row) _ c.in-Strings.is
    (row-told (λ x. option_of (match_truth case parts x)) text (tested (are_like case parts)) column.validity.now (λ i. bytes_between column.values.now (offset_in rows.width column) i) column.offset column.length (c.args.from + row) _ (omega (arith, below, within))
    (text-matches case parts) (c.match_strings.ensures.truth row below))

pub returns-in-Bytes-clause-truth : goal.returns-in-Bytes-clause-truth
returns-in-Bytes-clause-truth c = λ row below. no-strings c.args.case c.args.pattern.now c.args.rows.now (Bytes c.in-Bytes.field-0) (c.args.from + row) _ c.in-Bytes.is refl (c.fill_words.ensures.rows row (omega (arith, below, c.requires.words)))

pub returns-in-Values-clause-truth : goal.returns-in-Values-clause-truth
returns-in-Values-clause-truth c = λ row below. no-strings c.args.case c.args.pattern.now c.args.rows.now (Values c.in-Values.field-0) (c.args.from + row) _ c.in-Values.is (logical-no-strings c.in-Values.field-0.format) (c.fill_words-in-Values.ensures.rows row (omega (arith, below, c.requires.words)))

pub returns-in-Integers-clause-truth : goal.returns-in-Integers-clause-truth
returns-in-Integers-clause-truth c = λ row below. no-strings c.args.case c.args.pattern.now c.args.rows.now (Integers c.in-Integers.field-0) (c.args.from + row) _ c.in-Integers.is refl (c.fill_words-in-Integers.ensures.rows row (omega (arith, below, c.requires.words)))

pub returns-in-Booleans-clause-truth : goal.returns-in-Booleans-clause-truth
returns-in-Booleans-clause-truth c = λ row below. no-strings c.args.case c.args.pattern.now c.args.rows.now (Booleans c.in-Booleans.field-0) (c.args.from + row) _ c.in-Booleans.is refl (c.fill_words-in-Booleans.ensures.rows row (omega (arith, below, c.requires.words)))

pub returns-in-Nulls-clause-truth : goal.returns-in-Nulls-clause-truth
returns-in-Nulls-clause-truth c = λ row below. no-strings c.args.case c.args.pattern.now c.args.rows.now (Nulls c.in-Nulls.field-0) (c.args.from + row) _ c.in-Nulls.is refl (c.fill_words-in-Nulls.ensures.rows row (omega (arith, below, c.requires.words)))
