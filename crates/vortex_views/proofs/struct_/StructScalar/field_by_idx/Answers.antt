use Rattle.vortex_views.proofs.CopySteps.{copies_as}
use Rattle.vortex_views.proofs.struct_.StructScalar.field_by_idx.Goals as goal

pub returns : goal.returns
returns c = copies_as c.field_ref_by_idx.ensures.valid c.field_ref_by_idx.ensures.lent c.copy_part_if_any.ensures
