-- One type more.
use Rattle.vortex_c.proofs.SqlSteps.{types-more}
use Rattle.vortex_c.proofs.sql.types_of.Goals as goal

pub loop-column-preserved : goal.loop-column-preserved
loop-column-preserved c =
    types-more c.args.columns.now c.loop-column.column-index _ c.loop-column.types.items c.push.new.self.items c.in_ok-dtype.dtype c.loop-column-test.true c.loop-column.invariant c.in_ok-dtype.ensures.typed c.in_ok-push.ensures.items
