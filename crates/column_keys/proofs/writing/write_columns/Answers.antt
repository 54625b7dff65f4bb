-- One column more.
use Rattle.std.proofs.Common.{◌<◌, arith, length}
use Rattle.column_keys.proofs.ColumnsRead.{space-there, written-after, written-none}
use Rattle.column_keys.proofs.writing.write_columns.Goals as goal

pub loop-which-init : goal.loop-which-init
loop-which-init c = written-none c.args.kinds.now c.args.rows.now c.args.columns.now

pub write_column-requires-clause-cells : goal.write_column-requires-clause-cells
write_column-requires-clause-cells c = c.requires.cells c.loop-which.which c.loop-which-test.true

pub write_column-requires-clause-space : goal.write_column-requires-clause-space
write_column-requires-clause-space c =
    space-there c.args.kinds.now c.args.rows.now c.loop-which.which c.args.columns.now c.loop-which.columns c.known_kind-kind.result _ c.requires.space c.loop-which.invariant c.loop-which-test.true c.known_kind-kind.ensures

pub write_column-requires-clause-stored : goal.write_column-requires-clause-stored
write_column-requires-clause-stored c = c.requires.stored c.loop-which.which c.known_kind-kind.result c.loop-which-test.true c.known_kind-kind.ensures

pub loop-which-preserved : goal.loop-which-preserved
loop-which-preserved c =
    let within : c.loop-which.which < length c.loop-which.columns = omega (arith, c.loop-which-test.true, c.requires.lengths, c.loop-which.auto.columns) in
    written-after c.args.kinds.now c.args.rows.now c.loop-which.which c.args.columns.now c.loop-which.columns c.known_kind-kind.result _ c.write_column.new.column c.loop-which.invariant within c.known_kind-kind.ensures c.write_column.ensures
