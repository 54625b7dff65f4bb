use Rattle.std.proofs.Common.{ap, map}
use Rattle.vortex_views.specs.Parts.{ref_part}
use Rattle.vortex_views.proofs.iterators.ValuesIterator.next.Goals as goal

pub returns-clause-steps : goal.returns-clause-steps
returns-clause-steps c = (ref_part c.in_ok-value.value, ap (map (λ e. e.1)) c.in_ok-value.ensures, c.copy_part.ensures.given, c.copy_part.ensures.flat)
