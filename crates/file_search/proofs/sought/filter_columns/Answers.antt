-- A column more.
use Rattle.std.proofs.Common.{rules}
use Rattle.file_search.proofs.Columns.{trees_more}
use Rattle.file_search.proofs.sought.filter_columns.Goals as goal

pub loop-column-preserved : goal.loop-column-preserved
loop-column-preserved c = trees_more c.args.columns.now c.loop-column.column-index c.column-item.result c.loop-column.named.items c.push.new.self.items c.in_ok-filter_column.field-0 (search rules) c.column-item.is c.loop-column.invariant c.in_ok-filter_column.ensures c.in_ok-push.ensures.items
