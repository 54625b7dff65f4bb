use Rattle.vortex_views.proofs.CopySteps.{copies_as}
use Rattle.vortex_views.proofs.list.ListScalar.element.Goals as goal

pub returns : goal.returns
returns c = copies_as c.element_ref.ensures.valid c.element_ref.ensures.lent c.copy_part_if_any.ensures
