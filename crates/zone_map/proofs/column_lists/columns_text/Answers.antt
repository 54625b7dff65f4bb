-- One column more is listed behind the others.
use Rattle.std.proofs.Common.{◌≡◌, ◌∙◌, ℕ, List, sym, ap, take}
use Rattle.csv_columns.specs.Setups.{ColumnValue, column_values}
use Rattle.zone_map.specs.ColumnLists.{list_text, listed_behind}
use Rattle.zone_map.proofs.Listing.{list_text-next}
use Rattle.zone_map.proofs.column_lists.columns_text.Goals as goal

pub loop-named-preserved : goal.loop-named-preserved
loop-named-preserved c =
    let named = c.named-item.result in
    let added = c.in_ok-push_column.ensures {u = tt} in
    added
    ∙ ap (λ (text : List ℕ). listed_behind text (record { name = c.as_str.result.now; column = named.column })) c.loop-named.invariant
    ∙ ap (λ (name : List ℕ). listed_behind (list_text (column_values (take c.loop-named.named-index c.args.columns.now))) (record { name = name; column = named.column })) c.as_str.ensures.value
    ∙ sym (list_text-next c.args.columns.now c.loop-named.named-index named c.loop-named-test.true c.named-item.is)
