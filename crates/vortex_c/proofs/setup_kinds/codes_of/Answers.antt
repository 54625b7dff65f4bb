-- A code more.
use Rattle.std.proofs.Common.{rules}
use Rattle.vortex_c.proofs.SetupKindSteps.{kinds_more}
use Rattle.vortex_c.proofs.setup_kinds.codes_of.Goals as goal

pub loop-named-preserved : goal.loop-named-preserved
loop-named-preserved c = kinds_more c.args.columns.now c.loop-named.named-index c.named-item.result c.loop-named.codes.items c.push.new.self.items c.code_of_column.result (search rules) c.named-item.is c.loop-named.invariant c.code_of_column.ensures c.in_ok-push.ensures.items
