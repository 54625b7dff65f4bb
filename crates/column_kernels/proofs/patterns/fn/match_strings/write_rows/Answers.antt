use Rattle.std.proofs.Common.{◌∙◌, ◌+◌, None, Some, refl}
use Rattle.arrow_columns.specs.Cells.{cell_at}
use Rattle.arrow_columns.specs.Columns.{byte_cells, offset_in}
use Rattle.arrow_columns.specs.Offsets.{bytes_between}
use Rattle.vortex_filter.specs.PatternTests.{are_like}
use Rattle.column_kernels.proofs.CellSteps.{test-read}
use Rattle.column_kernels.proofs.RowTests.{text-of, utf8-like}
use Rattle.column_kernels.proofs.patterns.fn.match_strings.write_rows.Goals as goal

pub is_match_of_bytes-requires : goal.is_match_of_bytes-requires
is_match_of_bytes-requires c =
    let rows = c.captures.rows.now in
    text-of (byte_cells rows.width rows.column) (c.captures.from + c.args.row) c.in-Some.bytes.now c.requires.texts c.in-Some.ensures

pub returns-in-Some : goal.returns-in-Some
returns-in-Some c =
    let rows = c.captures.rows.now in
    let column = rows.column in
    let case = c.captures.case in
    let parts = c.captures.pattern.now in
    let is_text = text-of (byte_cells rows.width column) (c.captures.from + c.args.row) c.in-Some.bytes.now c.requires.texts c.in-Some.ensures in
    test-read (are_like case parts) (cell_at column.validity.now (bytes_between column.values.now (offset_in rows.width column))) column.offset column.length (c.captures.from + c.args.row) (Some c.in-Some.bytes.now) _ c.requires.row c.in-Some.ensures
    (c.is_match_of_bytes.ensures ∙ utf8-like case parts c.in-Some.bytes.now is_text)

pub returns-in-None : goal.returns-in-None
returns-in-None c =
    let rows = c.captures.rows.now in
    let column = rows.column in
    test-read (are_like c.captures.case c.captures.pattern.now) (cell_at column.validity.now (bytes_between column.values.now (offset_in rows.width column))) column.offset column.length (c.captures.from + c.args.row) None _ c.requires.row c.in-None.ensures refl
