-- One value more, or the first row that has none.
use Rattle.std.proofs.Common.{arith, map, subst, sym}
use Rattle.column_items.specs.Numbers.{HasContentOf}
use Rattle.vortex_value.specs.Values.Content.{content}
use Rattle.vortex_value.specs.Values.RawOf.{raw_of}
use Rattle.vortex_value.specs.Values.Scalars.{scalar_content}
use Rattle.column_keys.specs.Cells.{raws_in}
use Rattle.column_keys.proofs.RowsRead.{content-at, raws-count}
use Rattle.column_keys.proofs.StoredSteps.{stored-more, stored-none}
use Rattle.column_keys.proofs.stored.first_no_value.Goals as goal

pub loop-row-init : goal.loop-row-init
loop-row-init c = stored-none c.args.kind (map content (raws_in c.args.rows.now c.args.which))

pub loop-row-preserved : goal.loop-row-preserved
loop-row-preserved c =
    let raws = raws_in c.args.rows.now c.args.which in
    let x = c.cell_at.result.now in
    stored-more c.args.kind (map content raws) c.loop-row.row (scalar_content x) (content-at raws c.loop-row.row x c.cell_at.ensures) c.loop-row.invariant
    (subst (λ v. HasContentOf c.args.kind (content (raw_of v))) c.as_ref.ensures.value c.if-not-has_value.ensures)

pub returns-then-not-has_value : goal.returns-then-not-has_value
returns-then-not-has_value c =
    let raws = raws_in c.args.rows.now c.args.which in
    let x = c.cell_at.result.now in
    let count = raws-count c.args.rows.now c.args.which in
    record {
      within = omega (arith, count, c.loop-row-test.true);
      before = c.loop-row.invariant;
      none = λ h. c.if-not-has_value.ensures (subst (λ v. HasContentOf c.args.kind (content (raw_of v))) (sym c.as_ref.ensures.value) (subst (HasContentOf c.args.kind) (content-at raws c.loop-row.row x c.cell_at.ensures) h));
    }
