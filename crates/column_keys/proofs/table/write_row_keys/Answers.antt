-- The buffers hold a row more, and its key and offset are written.
use Rattle.std.proofs.Common.{◌+◌, ◌<◌, ◌∙◌, arith, length}
use Rattle.std.proofs.lemmas.List.{drop-set-lt, get_or-set_same, length-set}
use Rattle.column_keys.proofs.TableSteps.{keys-more, place-more, row-slot}
use Rattle.column_keys.proofs.table.write_row_keys.Goals as goal

pub write_row-place-requires-clause-buffer : goal.write_row-place-requires-clause-buffer
write_row-place-requires-clause-buffer c =
    row-slot c.args.columns.now c.loop-row.row c.args.row_count c.loop-row.place c.loop-row.buffer c.loop-row-test.true c.loop-row.invariant.2 (omega (arith, c.loop-row.auto.buffer, c.requires.buffer))

pub loop-row-preserved : goal.loop-row-preserved
loop-row-preserved c =
    let columns = c.args.columns.now in
    let row = c.loop-row.row in
    let next = c.write_row-place.result in
    let here = c.loop-row-test.true in
    let inside : row + 1 < length c.loop-row.offsets = omega (arith, c.loop-row.auto.offsets, length-set c.args.offsets.now 0 0, c.requires.offsets, here) in
    let slot = row-slot columns row c.args.row_count c.loop-row.place c.loop-row.buffer here c.loop-row.invariant.2 (omega (arith, c.loop-row.auto.buffer, c.requires.buffer)) in (
      keys-more columns row c.loop-row.place next c.loop-row.offsets c.loop-row.buffer c.write_row-place.new.buffer c.loop-row.invariant.0 c.loop-row.invariant.1 slot c.write_row-place.ensures inside,
      get_or-set_same c.loop-row.offsets (row + 1) next 0 inside,
      place-more columns row c.loop-row.place next c.loop-row.invariant.2 c.write_row-place.ensures.next',
      drop-set-lt (c.args.row_count + 1) c.loop-row.offsets (row + 1) next (omega (arith, here)) ∙ c.loop-row.invariant.3,
    )
