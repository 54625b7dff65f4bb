-- That memory holds both bounds.
use Rattle.std.proofs.Common.{ap, arith, subst}
use Rattle.vortex_value.specs.Values.Content.{content, null}
use Rattle.vortex_row.specs.Held.{IsHeld}
use Rattle.statistics_bytes.proofs.writing.append_both.Goals as goal

pub returns-in-Ok-clause-held_lower : goal.returns-in-Ok-clause-held_lower
returns-in-Ok-clause-held_lower c = subst IsHeld (ap content c.of.ensures.made.value) (c.in-Ok.ensures.held 0 null (omega arith))

pub returns-in-Ok-clause-held_upper : goal.returns-in-Ok-clause-held_upper
returns-in-Ok-clause-held_upper c = subst IsHeld (ap content c.of-2.ensures.made.value) (c.in-Ok.ensures.held 1 null (omega arith))
