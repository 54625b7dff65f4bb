use Rattle.vortex_views.proofs.PartSteps.{copied_elements-valid}
use Rattle.vortex_views.proofs.list.ListScalar.elements.Goals as goal

pub returns-clause-valid : goal.returns-clause-valid
returns-clause-valid c = copied_elements-valid _ _ _ _ _ c.in_ok-copies.ensures c.items.ensures c.element_dtype.ensures
