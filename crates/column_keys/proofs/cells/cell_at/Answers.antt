-- The cell is there, and its value.
use Rattle.column_keys.proofs.RowsRead.{raw-there}
use Rattle.column_keys.proofs.cells.cell_at.Goals as goal

pub returns : goal.returns
returns c =
    raw-there c.args.rows.now c.args.row c.args.which c.index-rows-row.result c.as_slice-cells.result.now c.index-cells-which.result c.requires.row c.requires.column c.index-rows-row.is c.as_slice-cells.ensures.value c.index-cells-which.is
