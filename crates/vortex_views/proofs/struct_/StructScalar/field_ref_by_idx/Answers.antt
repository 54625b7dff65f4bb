use Rattle.vortex_views.proofs.FieldSteps.{lent_field-valid}
use Rattle.vortex_views.proofs.struct_.StructScalar.field_ref_by_idx.Goals as goal

pub returns-clause-valid : goal.returns-clause-valid
returns-clause-valid c = lent_field-valid _ _ _ _ _ _ c.field_at.ensures c.items.ensures c.struct_fields.ensures
