-- One value more is written.
use Rattle.std.proofs.Common.{subst}
use Rattle.vortex_value.specs.Values.Content.{content}
use Rattle.vortex_row.specs.Held.{IsHeld}
use Rattle.vortex_row.proofs.RowSteps.{row-left, held-at}
use Rattle.vortex_row.proofs.rows.put_columns.Goals as goal

pub loop-column-preserved : goal.loop-column-preserved
loop-column-preserved c =
    let column = c.loop-column.column in
    let held = subst (λ v. IsHeld (content v)) c.value.ensures c.put_column-place.ensures.held in (
      row-left column c.args.options.now c.args.values.now _ c.index-values-column.result _ c.args.start c.loop-column.place c.put_column-place.result c.args.room.now c.loop-column.room c.put_column-place.new.room
          c.requires.lengths c.loop-column-test.true c.index-values-column.is c.value.ensures c.loop-column.invariant.0 c.put_column-place.ensures.written,
      λ rest. c.loop-column.invariant.1 (held-at column c.args.values.now c.index-values-column.result c.loop-column-test.true c.index-values-column.is held rest),
    )
