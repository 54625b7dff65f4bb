-- By the logical type of the column, if it has one.
use Rattle.std.proofs.Common.{◌∙◌, ap, false, Option, sym}
use Rattle.vortex_dtype.specs.TypeOf.{type_of}
use Rattle.logical_types.specs.Shapes.{Shape}
use Rattle.vortex_filter.proofs.LiteralTypes.{unshaped}
use Rattle.filter_sql.specs.Mistakes.{is_numeric}
use Rattle.filter_sql.specs.Reading.{chosen}
use Rattle.filter_sql.proofs.parsing.literals.is_numeric_type.Goals as goal

pub returns-in-Some : goal.returns-in-Some
returns-in-Some c =
    let shape = (c.shapes_say_types.ensures.says c.in-Some.logical (type_of c.args.dtype.now)).1 c.in-Some.ensures.some in
    c.is_numeric.ensures ∙ sym (ap (λ (o : Option Shape). chosen o is_numeric false) shape)

pub returns-in-None : goal.returns-in-None
returns-in-None c =
    let none = unshaped c.shapes_say_types.ensures.says c.shapes_say_types.ensures.whole (type_of c.args.dtype.now) c.in-None.ensures.none in
    sym (ap (λ (o : Option Shape). chosen o is_numeric false) none)
