-- The loop counts a column more.
use Rattle.std.proofs.Common.{◌≡◌, ◌+◌, ◌∙◌, List, ap, arith, drop, subst, sym, ℕ}
use Rattle.std.proofs.lemmas.List.{at_drop_all}
use Rattle.vortex_value.specs.Size.{capped}
use Rattle.column_keys.specs.Keys.{keys_length}
use Rattle.column_keys.specs.Tables.{options_of, table_of}
use Rattle.column_keys.specs.declared.key_columns.KeyColumn.{KeyColumn}
use Rattle.column_keys.proofs.RowSteps.{lengths-at, lengths-none, row-counted}
use Rattle.column_keys.proofs.table.row_keys_length.Goals as goal

pub loop-column-preserved : goal.loop-column-preserved
loop-column-preserved c =
    let columns = c.args.columns.now in
    let count = c.args.row_count in
    let left = subst (λ n. capped (c.loop-column.total + n) ≡ capped (keys_length (options_of columns) (table_of columns) count)) (lengths-at c.loop-column.column-index columns c.column-item.result c.loop-column-test.true c.column-item.is count) c.loop-column.invariant.1 in
    row-counted c.loop-column.total _ _ _ c.column_keys_length.result c.saturating_add-total.result c.saturating_add-total.ensures c.column_keys_length.ensures left

pub returns : goal.returns
returns c =
    let columns = c.args.columns.now in
    let length_of : List KeyColumn → ℕ = λ some. keys_length (options_of some) (table_of some) c.args.row_count in
    let none : length_of (drop c.loop-column.column-index columns) ≡ 0 = at_drop_all length_of columns c.loop-column.column-index (omega arith) ∙ lengths-none c.args.row_count in
    let whole = subst (λ n. capped (c.loop-column.total + n) ≡ capped (length_of columns)) none c.loop-column.invariant.1 in
    let same : c.loop-column.total + 0 ≡ c.loop-column.total = omega arith in
    sym c.loop-column.invariant.0 ∙ sym (ap capped same) ∙ whole
