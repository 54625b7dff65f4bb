-- One column more, or the first with a row that has no value.
use Rattle.column_keys.proofs.StoredSteps.{columns-more, columns-none}
use Rattle.column_keys.proofs.stored.expect_values.Goals as goal

pub loop-column-init : goal.loop-column-init
loop-column-init c = columns-none c.args.kinds.now c.args.rows.now

pub first_no_value-requires : goal.first_no_value-requires
first_no_value-requires c = c.requires.cells c.loop-column.column c.loop-column-test.true

pub loop-column-preserved : goal.loop-column-preserved
loop-column-preserved c =
    columns-more c.args.kinds.now c.args.rows.now c.loop-column.column c.known_kind-kind.result c.loop-column.invariant c.known_kind-kind.ensures c.in_default.ensures

pub returns-in-Some-clause-fault : goal.returns-in-Some-clause-fault
returns-in-Some-clause-fault c = (c.loop-column-test.true, c.loop-column.invariant, (c.known_kind-kind.result, c.known_kind-kind.ensures, c.in-Some.ensures))
