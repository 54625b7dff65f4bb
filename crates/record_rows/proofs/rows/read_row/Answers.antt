-- A row of which each cell is wanted.
use Rattle.record_rows.proofs.Reading.{whole_rows}
use Rattle.record_rows.proofs.rows.read_row.Goals as goal

pub returns-clause-row : goal.returns-clause-row
returns-clause-row c = whole_rows c.args.schema.now.delimiter.byte c.args.schema.now.reading c.args.schema.now.columns.items c.args.line.now c.read_cells.new.row.items c.read_cells.result c.read_cells.ensures.row
