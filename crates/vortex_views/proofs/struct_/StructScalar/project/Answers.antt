use Rattle.std.proofs.Common.{IfSome}
use Rattle.vortex_dtype.specs.Parts.{fields_in}
use Rattle.vortex_views.proofs.FieldSteps.{made-typed, made-valid, made-value, projected-type}
use Rattle.vortex_views.specs.StructParts.{IsProjectedValue}
use Rattle.vortex_views.specs.Structs.{struct_view_raw, struct_view_type}
use Rattle.vortex_views.proofs.struct_.StructScalar.project.Goals as goal

pub returns-clause-typed : goal.returns-clause-typed
returns-clause-typed c =
    made-typed _ _ _ _ _ c.with_value.ensures
    (projected-type _ _ _ _ _ _ c.struct_fields.ensures c.in_ok-fields.ensures.made c.nullability.ensures c.dtype.ensures)

pub returns-clause-value : goal.returns-clause-value
returns-clause-value c =
    made-value _ _ _ (λ w. IfSome (fields_in (struct_view_type c.args.self.now)) (λ f. IsProjectedValue f c.args.projection.now (struct_view_raw c.args.self.now) w))
    c.with_value.ensures c.projected_value-value.ensures

pub returns-clause-valid : goal.returns-clause-valid
returns-clause-valid c = made-valid _ _ _ _ (returns-clause-typed c) (returns-clause-value c)
