-- One column more.
use Rattle.vortex_c.proofs.SqlSteps.{named-at, trees-more}
use Rattle.vortex_c.proofs.sql.named_columns.Goals as goal

pub named_column-requires : goal.named_column-requires
named_column-requires c = named-at c.args.columns.now c.loop-place.place _ c.loop-place-test.true c.requires

pub loop-place-preserved : goal.loop-place-preserved
loop-place-preserved c = trees-more c.args.columns.now c.loop-place.place _ c.loop-place.named.items c.push.new.self.items c.in_ok-column.column c.loop-place-test.true c.loop-place.invariant c.in_ok-column.ensures.named c.in_ok-push.ensures.items
