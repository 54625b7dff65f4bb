use Rattle.vortex_views.proofs.PartSteps.{keys-valid}
use Rattle.vortex_views.proofs.map.MapScalar.keys.Goals as goal

pub returns-clause-valid : goal.returns-clause-valid
returns-clause-valid c = λ valid. keys-valid _ _ c.of.ensures (c.entries.ensures.valid valid)
