use Rattle.std.proofs.Common.{sym, ◌∙◌}
use Rattle.vortex_views.proofs.FieldSteps.{projected-tuple}
use Rattle.vortex_views.proofs.struct_.StructScalar.projected_value.Goals as goal

pub returns : goal.returns
returns c = projected-tuple _ _ _ _ _ _ c.struct_fields.ensures (sym c.is_null.ensures ∙ c.if-is_null.false) c.value.ensures c.in_ok-values.ensures
