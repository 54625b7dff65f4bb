-- The column of the schema is counted.
use Rattle.record_columns.proofs.BufferSteps.{count_of, have_column, kind_at_place, tells_ready}
use Rattle.record_columns.proofs.buffers.count_one.Goals as goal

pub count_column-requires-clause-cells : goal.count_column-requires-clause-cells
count_column-requires-clause-cells c = have_column c.args.schema.now.columns.items c.args.rows.now c.args.place c.requires.values c.requires.known

pub returns-clause-counted : goal.returns-clause-counted
returns-clause-counted c =
    let kind = c.kind_of_column-kind.result in
    let is = kind_at_place c.args.schema.now c.args.place c.index.result.now kind c.index.ensures c.requires.known c.kind_of_column-kind.ensures.kind in
    count_of c.args.schema.now c.args.rows.now c.args.place kind c.args.column.now c.count_column.new.column is c.count_column.ensures.counted

pub returns-clause-ready : goal.returns-clause-ready
returns-clause-ready c =
    let kind = c.kind_of_column-kind.result in
    let is = kind_at_place c.args.schema.now c.args.place c.index.result.now kind c.index.ensures c.requires.known c.kind_of_column-kind.ensures.kind in
    tells_ready c.args.schema.now c.args.rows.now c.args.place kind c.args.column.now c.count_column.new.column c.count_column.result is c.count_column.ensures.counted c.count_column.ensures.space
