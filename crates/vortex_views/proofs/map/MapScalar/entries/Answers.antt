use Rattle.vortex_views.proofs.PartSteps.{entries-valid}
use Rattle.vortex_views.proofs.map.MapScalar.entries.Goals as goal

pub returns-clause-valid : goal.returns-clause-valid
returns-clause-valid c = entries-valid _ _ _ _ _ c.new.ensures c.items.ensures c.map_dtype.ensures
