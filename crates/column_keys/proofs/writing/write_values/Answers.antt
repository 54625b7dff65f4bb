-- One number more.
use Rattle.std.proofs.Common.{FitsSigned, arith, length, map, rules, subst}
use Rattle.std.proofs.lemmas.Int.{to_z-of_z}
use Rattle.std.specs.Int.{w128}
use Rattle.arrow_columns.specs.declared.kinds.Kind.TheVariants.{Logical}
use Rattle.column_items.specs.Items.{bytes_of_stored}
use Rattle.column_items.specs.Numbers.{HasContentOf}
use Rattle.vortex_value.specs.Values.Content.{content}
use Rattle.vortex_value.specs.Values.Scalars.{scalar_content}
use Rattle.column_keys.specs.Cells.{raws_in}
use Rattle.column_keys.proofs.RowsRead.{content-at, raws-count}
use Rattle.column_keys.proofs.StoredSteps.{item-buffer, item-in, numbers-done, numbers-more, numbers-none}
use Rattle.column_keys.proofs.writing.write_values.Goals as goal

pub loop-row-init : goal.loop-row-init
loop-row-init c = numbers-none c.args.format (map content (raws_in c.args.rows.now c.args.which)) c.args.values.now

pub stored_or_zero-number-requires : goal.stored_or_zero-number-requires
stored_or_zero-number-requires c =
    let raws = raws_in c.args.rows.now c.args.which in
    let x = c.cell_at.result.now in
    subst (HasContentOf (Logical c.args.format)) (content-at raws c.loop-row.row x c.cell_at.ensures) (c.requires.stored c.loop-row.row c.loop-row-test.true)

pub put_item-requires : goal.put_item-requires
put_item-requires c =
    item-buffer c.args.format (bytes_of_stored c.item_of_number.result) c.loop-row.row (length c.args.rows.now) (length c.loop-row.values) c.item_of_number.ensures.width c.loop-row-test.true (omega (arith, c.requires.buffer, c.loop-row.auto.values))

pub loop-row-preserved : goal.loop-row-preserved
loop-row-preserved c =
    let raws = raws_in c.args.rows.now c.args.which in
    let x = c.cell_at.result.now in
    let fits : FitsSigned w128 c.stored_or_zero-number.result = search rules in
    let item = bytes_of_stored c.item_of_number.result in
    let is = item-in c.args.format (scalar_content x) _ _ item c.item_of_number.ensures.number c.item_of_number.ensures.item (to_z-of_z w128 c.stored_or_zero-number.result fits) c.stored_or_zero-number.ensures.number in
    numbers-more c.args.format (map content raws) c.loop-row.row c.loop-row.values c.put_item.new.values item (scalar_content x) (content-at raws c.loop-row.row x c.cell_at.ensures) c.loop-row.invariant
    c.item_of_number.ensures.width is c.put_item.ensures.item c.put_item.ensures.before

pub returns : goal.returns
returns c =
    let count = raws-count c.args.rows.now c.args.which in
    numbers-done c.args.format (map content (raws_in c.args.rows.now c.args.which)) c.loop-row.row c.loop-row.values (omega (arith, count)) c.loop-row.invariant
