-- What was appended holds the row.
use Rattle.std.proofs.Common.{map, subst, sym}
use Rattle.vortex_value.specs.Values.Refs.{ref_content}
use Rattle.vortex_row.specs.Columns.{row_key}
use Rattle.vortex_row.specs.Slots.{HasSlot}
use Rattle.vortex_row.proofs.RowSteps.{row-slot}
use Rattle.vortex_row.proofs.rows.append_row.Goals as goal

pub put_columns-end-requires-clause-room : goal.put_columns-end-requires-clause-room
put_columns-end-requires-clause-room c =
    subst (λ xs. HasSlot xs c.len-start.result (row_key c.args.options.now (map ref_content c.args.values.now))) (sym c.as_mut_slice.ensures.value)
    (row-slot c.args.options.now c.args.values.now c.len-start.result c.args.out.now c.extend_for_row.new.out c.requires c.len-start.ensures c.in_ok-extend_for_row.ensures.enough)
