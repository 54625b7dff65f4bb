-- The column of the schema is written.
use Rattle.record_columns.proofs.BufferSteps.{are_stored, column_of, counts_of, have_column, have_types, kind_at_place, space_of}
use Rattle.record_columns.proofs.buffers.write_one.Goals as goal

pub write_column-requires-clause-cells : goal.write_column-requires-clause-cells
write_column-requires-clause-cells c = have_column c.args.schema.now.columns.items c.args.rows.now c.args.place c.requires.values c.requires.known

pub write_column-requires-clause-typed : goal.write_column-requires-clause-typed
write_column-requires-clause-typed c =
    have_types c.args.schema.now.columns.items c.args.rows.now c.args.place c.index.result.now c.kind_of_column-kind.result c.requires.values c.index.ensures c.requires.known c.kind_of_column-kind.ensures.kind

pub write_column-requires-clause-stored : goal.write_column-requires-clause-stored
write_column-requires-clause-stored c =
    are_stored c.args.schema.now.columns.items c.args.rows.now c.args.place c.index.result.now c.kind_of_column-kind.result c.requires.values c.index.ensures c.requires.known c.kind_of_column-kind.ensures.kind

pub write_column-requires-clause-counted : goal.write_column-requires-clause-counted
write_column-requires-clause-counted c =
    let kind = c.kind_of_column-kind.result in
    let is = kind_at_place c.args.schema.now c.args.place c.index.result.now kind c.index.ensures c.requires.known c.kind_of_column-kind.ensures.kind in
    counts_of c.args.schema.now c.args.rows.now c.args.place kind c.args.column.now is c.requires.ready

pub write_column-requires-clause-space : goal.write_column-requires-clause-space
write_column-requires-clause-space c =
    let kind = c.kind_of_column-kind.result in
    let is = kind_at_place c.args.schema.now c.args.place c.index.result.now kind c.index.ensures c.requires.known c.kind_of_column-kind.ensures.kind in
    space_of c.args.schema.now c.args.rows.now c.args.place kind c.args.column.now is c.requires.ready

pub returns : goal.returns
returns c =
    let kind = c.kind_of_column-kind.result in
    let is = kind_at_place c.args.schema.now c.args.place c.index.result.now kind c.index.ensures c.requires.known c.kind_of_column-kind.ensures.kind in
    column_of c.args.schema.now c.args.rows.now c.args.place kind c.args.column.now c.write_column.new.column is c.write_column.ensures
