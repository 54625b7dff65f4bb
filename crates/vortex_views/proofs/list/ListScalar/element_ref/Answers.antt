use Rattle.vortex_views.proofs.PartSteps.{lent_element-valid}
use Rattle.vortex_views.proofs.list.ListScalar.element_ref.Goals as goal

pub returns-clause-valid : goal.returns-clause-valid
returns-clause-valid c = lent_element-valid _ _ _ _ _ _ c.part_at.ensures c.items.ensures c.element_dtype.ensures
