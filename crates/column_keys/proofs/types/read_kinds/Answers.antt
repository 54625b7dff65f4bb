-- One type more.
use Rattle.column_keys.proofs.TypeSteps.{types-more}
use Rattle.column_keys.proofs.types.read_kinds.Goals as goal

pub loop-column-preserved : goal.loop-column-preserved
loop-column-preserved c =
    types-more c.args.kinds.now c.loop-column.column c.loop-column.read.items c.push.new.self.items _ c.known_kind.result c.loop-column-test.true c.loop-column.invariant c.known_kind.ensures c.in_ok-dtype.ensures.made c.in_ok-push.ensures.items
