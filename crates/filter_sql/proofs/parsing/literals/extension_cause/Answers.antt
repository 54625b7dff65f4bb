-- By the logical type of the column, if it has one.
use Rattle.std.proofs.Common.{ap, cond, Option, sym}
use Rattle.std.specs.Prelude.{is_some}
use Rattle.vortex_dtype.specs.TypeOf.{type_of}
use Rattle.logical_types.specs.Shapes.{Shape}
use Rattle.vortex_filter.proofs.LiteralTypes.{unshaped}
use Rattle.filter_sql.specs.declared.parsing.errors.Cause.TheVariants.{NoLiteral, TypesDiffer}
use Rattle.filter_sql.proofs.parsing.literals.extension_cause.Goals as goal

pub returns-in-Some : goal.returns-in-Some
returns-in-Some c =
    let shape = (c.shapes_say_types.ensures.says c.in-Some.field-0 (type_of c.args.dtype.now)).1 c.in-Some.ensures.some in
    sym (ap (λ (o : Option Shape). cond (is_some o) TypesDiffer NoLiteral) shape)

pub returns-in-None : goal.returns-in-None
returns-in-None c =
    let none = unshaped c.shapes_say_types.ensures.says c.shapes_say_types.ensures.whole (type_of c.args.dtype.now) c.in-None.ensures.none in
    sym (ap (λ (o : Option Shape). cond (is_some o) TypesDiffer NoLiteral) none)
