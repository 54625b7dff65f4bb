use Rattle.vortex_views.proofs.FieldSteps.{left-valid}
use Rattle.vortex_views.proofs.struct_.StructScalar.fields_iter.Goals as goal

pub returns-else-is_null-clause-valid : goal.returns-else-is_null-clause-valid
returns-else-is_null-clause-valid c = left-valid _ _ _ _ _ _ c.new.ensures c.dtypes.ensures.trees c.items.ensures c.struct_fields.ensures
