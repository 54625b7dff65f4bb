use Rattle.std.proofs.Common.{inl}
use Rattle.column_cells.specs.Contents.{contents_of_column, contents_of_rows}
use Rattle.column_cells.specs.Types.{type_of_column, type_of_rows}
use Rattle.column_statistics.specs.Cells.{cells_of_column}
use Rattle.column_statistics.specs.Extremes.{AreWholeOf}
use Rattle.column_statistics.proofs.CompleteLaws.{whole_of_column}
use Rattle.column_statistics.proofs.CutLaws.{cut_long, cut_typed, takes_memory}
use Rattle.column_statistics.proofs.statistics.statistics_of.Goals as goal

pub returns-in-Ok-truncate-clause-statistics : goal.returns-in-Ok-truncate-clause-statistics
returns-in-Ok-truncate-clause-statistics c =
    let column = c.args.column in
    let rows = c.in-Ok.rows in
    let s = c.statistics_from.result in
    let whole : AreWholeOf (type_of_column column) (contents_of_column column) s =
    whole_of_column column rows s c.in-Ok.ensures.typed c.in-Ok.ensures.contents (c.statistics_from.ensures (type_of_rows rows) (contents_of_rows rows) c.row_count.ensures c.in-Ok-summary_of.ensures.summary) in
    record { whole = s; complete = whole.complete; truncated = c.in-Ok-truncate.ensures.value }

pub returns-in-Ok-truncate-clause-right : goal.returns-in-Ok-truncate-clause-right
returns-in-Ok-truncate-clause-right c =
    let column = c.args.column in
    let rows = c.in-Ok.rows in
    let s = c.statistics_from.result in
    let whole : AreWholeOf (type_of_column column) (contents_of_column column) s =
    whole_of_column column rows s c.in-Ok.ensures.typed c.in-Ok.ensures.contents (c.statistics_from.ensures (type_of_rows rows) (contents_of_rows rows) c.row_count.ensures c.in-Ok-summary_of.ensures.summary) in
    c.in-Ok-truncate.ensures.right (cells_of_column column) whole.complete.right

pub returns-in-Ok-truncate-clause-typed : goal.returns-in-Ok-truncate-clause-typed
returns-in-Ok-truncate-clause-typed c =
    let column = c.args.column in
    let rows = c.in-Ok.rows in
    let s = c.statistics_from.result in
    let whole : AreWholeOf (type_of_column column) (contents_of_column column) s =
    whole_of_column column rows s c.in-Ok.ensures.typed c.in-Ok.ensures.contents (c.statistics_from.ensures (type_of_rows rows) (contents_of_rows rows) c.row_count.ensures c.in-Ok-summary_of.ensures.summary) in
    cut_typed (type_of_column column) c.args.limit s c.in-Ok-truncate.statistics whole.typed c.in-Ok-truncate.ensures.value

pub returns-in-Err-truncate-clause-refused : goal.returns-in-Err-truncate-clause-refused
returns-in-Err-truncate-clause-refused c =
    let column = c.args.column in
    let rows = c.in-Ok.rows in
    let s = c.statistics_from.result in
    let whole : AreWholeOf (type_of_column column) (contents_of_column column) s =
    whole_of_column column rows s c.in-Ok.ensures.typed c.in-Ok.ensures.contents (c.statistics_from.ensures (type_of_rows rows) (contents_of_rows rows) c.row_count.ensures c.in-Ok-summary_of.ensures.summary) in
    let h = c.in-Err-truncate.ensures.refused in
    (record { rows = rows; are_rows = c.in-Ok.ensures.rows }, inl (cut_long (type_of_column column) (contents_of_column column) c.args.limit s whole h.1 h.2))

pub returns-in-Err-summary_of-clause-refused : goal.returns-in-Err-summary_of-clause-refused
returns-in-Err-summary_of-clause-refused c =
    let rows = c.in-Ok.rows in
    (record { rows = rows; are_rows = c.in-Ok.ensures.rows }, takes_memory c.args.column rows c.in-Ok.ensures.rows c.in-Ok.ensures.contents c.in-Err-summary_of.ensures.refused)
