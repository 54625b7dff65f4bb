-- No other row follows, or one does.
use Rattle.csv_records.proofs.Fielding.{is_nil, not_nil, row_ends, row_follows}
use Rattle.csv_records.proofs.fields.after_row.Goals as goal

pub returns-then-is_empty : goal.returns-then-is_empty
returns-then-is_empty c = λ before quoted.
    let d = c.args.delimiter.byte in
    row_ends d before quoted c.args.byte c.args.rest.now c.requires.other c.requires.ends
    (c.row_start.ensures.none (is_nil c.row_start.result.now c.is_empty.result c.is_empty.ensures c.if-is_empty.true) d)

pub returns-else-is_empty : goal.returns-else-is_empty
returns-else-is_empty c = λ before quoted.
    let d = c.args.delimiter.byte in
    row_follows d before quoted c.args.byte c.args.rest.now c.row_start.result.now c.requires.other c.requires.ends
    (c.row_start.ensures.row (not_nil c.row_start.result.now c.is_empty.result c.is_empty.ensures c.if-is_empty.false) d)
