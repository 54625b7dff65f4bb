use Rattle.vortex_views.proofs.PartSteps.{lent_entry-valid}
use Rattle.vortex_views.proofs.map.MapScalar.entry_ref.Goals as goal

pub returns-clause-valid : goal.returns-clause-valid
returns-clause-valid c = lent_entry-valid _ _ _ _ _ _ c.entry_at.ensures c.items.ensures c.map_dtype.ensures
