use Rattle.std.proofs.Common.{Some, IfOk, subst}
use Rattle.vortex_dtype.specs.TypeOf.{type_of}
use Rattle.vortex_value.specs.Zero.{IsTheOneOf, filling}
use Rattle.vortex_value.proofs.MakerLaws.{typed_with}
use Rattle.vortex_value.proofs.ZeroSteps.{the_filling}
use Rattle.vortex_value.proofs.zero.zero_or_default.Goals as goal

pub returns : goal.returns
returns c =
    let t = type_of c.args.dtype.now in
    subst (λ r. IfOk r (λ y. IsTheOneOf t (filling c.args.nulls t) (Some y))) c.in_ok-with_type.was
    (typed_with _ c.clone.result c.write_zero_or_default.new.place c.with_type.result t (λ y. IsTheOneOf t (filling c.args.nulls t) (Some y)) c.with_type.ensures c.clone.ensures
    (λ d typed. the_filling c.args.nulls t _ typed c.in_ok-write_zero_or_default.ensures))
