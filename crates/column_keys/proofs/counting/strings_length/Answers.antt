-- The bytes of one row more.
use Rattle.std.proofs.Common.{◌<◌, ◌∙◌, ap, arith, length, map}
use Rattle.std.proofs.lemmas.List.{take_all}
use Rattle.vortex_value.specs.Size.{capped}
use Rattle.vortex_value.specs.Values.Content.{content}
use Rattle.vortex_value.specs.Values.Scalars.{scalar_content}
use Rattle.column_keys.specs.Cells.{raws_in}
use Rattle.column_keys.specs.Layout.{bytes_length}
use Rattle.column_keys.proofs.RowsRead.{content-at, raws-count}
use Rattle.column_keys.proofs.StringSteps.{counted-more}
use Rattle.column_keys.proofs.counting.strings_length.Goals as goal

pub loop-row-preserved : goal.loop-row-preserved
loop-row-preserved c =
    let raws = raws_in c.args.rows.now c.args.which in
    let x = c.cell_at.result.now in
    let count = raws-count c.args.rows.now c.args.which in
    let within : c.loop-row.row < length (map content raws) = omega (arith, count, c.loop-row-test.true) in
    counted-more (map content raws) c.loop-row.row c.loop-row.total _ _ (scalar_content x) within (content-at raws c.loop-row.row x c.cell_at.ensures) c.loop-row.invariant (ap length c.bytes_or_none.ensures) c.saturating_add-total.ensures

pub returns : goal.returns
returns c =
    let cells = map content (raws_in c.args.rows.now c.args.which) in
    let count = raws-count c.args.rows.now c.args.which in
    c.loop-row.invariant ∙ ap (λ cs. capped (bytes_length cs)) (take_all c.loop-row.row cells (omega (arith, count)))
