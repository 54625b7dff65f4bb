use Rattle.std.proofs.Common.{ap, map}
use Rattle.vortex_views.specs.Parts.{ref_part}
use Rattle.vortex_views.proofs.iterators.KeysIterator.next.Goals as goal

pub returns-clause-steps : goal.returns-clause-steps
returns-clause-steps c = (ref_part c.in_ok-key.key, ap (map (λ e. e.0)) c.in_ok-key.ensures, c.copy_part.ensures.given, c.copy_part.ensures.flat)
