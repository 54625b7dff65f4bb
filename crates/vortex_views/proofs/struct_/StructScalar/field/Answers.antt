use Rattle.std.proofs.Common.{sym}
use Rattle.vortex_views.proofs.CopySteps.{copies_as, copies_none}
use Rattle.vortex_views.proofs.FieldSteps.{at_named_place, no_such_name}
use Rattle.vortex_views.proofs.struct_.StructScalar.field.Goals as goal

pub returns-in-Some : goal.returns-in-Some
returns-in-Some c =
    copies_as (λ h. h) (at_named_place _ _ _ _ _ c.struct_fields.ensures (sym c.in-Some.ensures)) c.field_by_idx.ensures

pub returns-in-None : goal.returns-in-None
returns-in-None c = copies_none (no_such_name _ _ _ _ c.struct_fields.ensures (sym c.in-None.ensures))
