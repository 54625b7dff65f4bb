use Rattle.vortex_views.proofs.PartSteps.{values-valid}
use Rattle.vortex_views.proofs.map.MapScalar.values.Goals as goal

pub returns-clause-valid : goal.returns-clause-valid
returns-clause-valid c = λ valid. values-valid _ _ c.of.ensures (c.entries.ensures.valid valid)
