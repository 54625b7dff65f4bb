use Rattle.std.proofs.Common.{Some, None, Ok, Err, refl, sym, subst, ◌∙◌}
use Rattle.vortex_dtype.specs.Refusals.{RefusesExactly}
use Rattle.vortex_dtype.specs.TypeOf.{fields_of}
use Rattle.vortex_dtype.specs.declared.error.VortexError.TheVariants.{WrongChild}
use Rattle.vortex_value.proofs.StructMakers.{fields_decide}
use Rattle.vortex_value.proofs.constructor.structs.check_fields.Goals as goal

pub returns-in-Some : goal.returns-in-Some
returns-in-Some c =
    let decided = fields_decide c.dtypes.result.now (fields_of c.args.fields.now).types c.args.children.now (Some c.in-Some.index) c.dtypes.ensures.trees
    (sym c.wrong_field.ensures ∙ c.in-Some.is) (sym c.nfields.ensures ∙ c.if-nfields-children.false) in
    subst (λ o. RefusesExactly {T = Unit {0}} o (Err (WrongChild c.in-Some.index))) decided refl

pub returns-in-None : goal.returns-in-None
returns-in-None c =
    let decided = fields_decide c.dtypes.result.now (fields_of c.args.fields.now).types c.args.children.now None c.dtypes.ensures.trees
    (sym c.wrong_field.ensures ∙ c.in-None.is) (sym c.nfields.ensures ∙ c.if-nfields-children.false) in
    subst (λ o. RefusesExactly {T = Unit {0}} o (Ok tt)) decided refl
