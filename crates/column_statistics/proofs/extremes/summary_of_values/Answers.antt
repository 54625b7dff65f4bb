-- The least and the greatest number are those of the least and the greatest value.
use Rattle.std.proofs.Common.{ℤ, List, Option}
use Rattle.arrow_columns.specs.Columns.{logical_cells}
use Rattle.column_statistics.proofs.ValueLaws.{extremes_valued, numbers_among, numbers_none, of_numbers, summary_of_extremes, summary_of_nulls}
use Rattle.column_statistics.proofs.extremes.summary_of_values.Goals as goal

pub value_extremes-requires-clause-least : goal.value_extremes-requires-clause-least
value_extremes-requires-clause-least c =
    let rows = c.args.rows.now in
    let cells : List (Option ℤ) = logical_cells rows.format rows.column in
    let h = of_numbers rows.format _ rows.column _ c.statistics-statistics.result c.numbers.ensures.kind c.numbers.ensures.column c.statistics-statistics.ensures in
    (extremes_valued c.decimal_bytes_sort_as_numbers.ensures rows.format c.requires.0 cells c.requires.1 c.in-Some.extremes (numbers_among cells c.statistics-statistics.result c.in-Some.extremes h c.in-Some.is)).0

pub value_extremes-requires-clause-greatest : goal.value_extremes-requires-clause-greatest
value_extremes-requires-clause-greatest c =
    let rows = c.args.rows.now in
    let cells : List (Option ℤ) = logical_cells rows.format rows.column in
    let h = of_numbers rows.format _ rows.column _ c.statistics-statistics.result c.numbers.ensures.kind c.numbers.ensures.column c.statistics-statistics.ensures in
    (extremes_valued c.decimal_bytes_sort_as_numbers.ensures rows.format c.requires.0 cells c.requires.1 c.in-Some.extremes (numbers_among cells c.statistics-statistics.result c.in-Some.extremes h c.in-Some.is)).1

pub returns-in_ok-extremes-in-Some : goal.returns-in_ok-extremes-in-Some
returns-in_ok-extremes-in-Some c =
    let rows = c.args.rows.now in
    let cells : List (Option ℤ) = logical_cells rows.format rows.column in
    let h = of_numbers rows.format _ rows.column _ c.statistics-statistics.result c.numbers.ensures.kind c.numbers.ensures.column c.statistics-statistics.ensures in
    record {
      summary = summary_of_extremes c.decimal_bytes_sort_as_numbers.ensures rows.format c.requires.0 cells c.requires.1 c.statistics-statistics.result c.in-Some.extremes c.in_ok-extremes-in-Some.extremes h
          (numbers_among cells c.statistics-statistics.result c.in-Some.extremes h c.in-Some.is) c.in_ok-extremes-in-Some.ensures.least c.in_ok-extremes-in-Some.ensures.greatest;
    }

pub returns-in-None : goal.returns-in-None
returns-in-None c =
    let rows = c.args.rows.now in
    let cells : List (Option ℤ) = logical_cells rows.format rows.column in
    let h = of_numbers rows.format _ rows.column _ c.statistics-statistics.result c.numbers.ensures.kind c.numbers.ensures.column c.statistics-statistics.ensures in
    record { summary = summary_of_nulls rows.format cells c.statistics-statistics.result h (numbers_none cells c.statistics-statistics.result h c.in-None.is) }
