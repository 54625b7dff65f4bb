-- As many as the root has.
use Rattle.std.proofs.Common.{arith}
use Rattle.zone_map.proofs.index_files.left_of_root.Goals as goal

pub returns-in-Ok-clause-long : goal.returns-in-Ok-clause-long
returns-in-Ok-clause-long c = λ r more rest few same. omega (arith, c.in-Ok.ensures.long r more rest few same, c.saturating_sub.ensures)
