-- The loop counts a cell more.
use Rattle.std.proofs.Common.{◌∙◌, ap, length}
use Rattle.vortex_value.specs.Size.{capped}
use Rattle.vortex_row.specs.Keys.{key}
use Rattle.column_cells.specs.Contents.{contents_of_rows}
use Rattle.column_keys.proofs.RowSteps.{column-more}
use Rattle.column_keys.proofs.lengths.cells_length.Goals as goal

pub loop-row-preserved : goal.loop-row-preserved
loop-row-preserved c =
    column-more (contents_of_rows c.args.rows.now) c.loop-row.row c.loop-row.total c.plain_key_length.result c.saturating_add-total.result c.loop-row.invariant
    (c.plain_key_length.ensures ∙ ap (λ k. capped (length (key k))) (c.plain.ensures ∙ c.value_at.ensures)) c.saturating_add-total.ensures
