use Rattle.vortex_views.proofs.CopySteps.{copies_as}
use Rattle.vortex_views.proofs.union.UnionScalar.child.Goals as goal

pub returns-clause-copies : goal.returns-clause-copies
returns-clause-copies c = copies_as (λ h. c.child_ref.ensures.valid) c.child_ref.ensures.lent c.copy_part_if_any.ensures
