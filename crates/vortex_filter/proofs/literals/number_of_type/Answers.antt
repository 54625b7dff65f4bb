-- By the logical type of the column, if it has one.
use Rattle.vortex_dtype.specs.TypeOf.{type_of}
use Rattle.logical_types.specs.Shapes.{Shape, shape_of}
use Rattle.vortex_filter.specs.Literals.{number_of_shape}
use Rattle.vortex_filter.proofs.LiteralTypes.{by_none, by_shape, unshaped}
use Rattle.vortex_filter.proofs.MemorySteps.{asks_shape}
use Rattle.vortex_filter.proofs.literals.number_of_type.Goals as goal

pub returns-in-Some-clause-value : goal.returns-in-Some-clause-value
returns-in-Some-clause-value c =
    by_shape (λ (s : Shape). number_of_shape (type_of c.args.dtype.now) s c.args.word.now) (type_of c.args.dtype.now) (shape_of c.in-Some.logical) c.number_of_logical.result
    ((c.shapes_say_types.ensures.says c.in-Some.logical (type_of c.args.dtype.now)).1 c.in-Some.ensures.some) c.number_of_logical.ensures.value

pub returns-in-None-clause-value : goal.returns-in-None-clause-value
returns-in-None-clause-value c =
    by_none (λ (s : Shape). number_of_shape (type_of c.args.dtype.now) s c.args.word.now) (type_of c.args.dtype.now)
    (unshaped c.shapes_say_types.ensures.says c.shapes_say_types.ensures.whole (type_of c.args.dtype.now) c.in-None.ensures.none)

pub returns-in-Some-clause-refused : goal.returns-in-Some-clause-refused
returns-in-Some-clause-refused c =
    asks_shape (λ (s : Shape). number_of_shape (type_of c.args.dtype.now) s c.args.word.now) (type_of c.args.dtype.now) (shape_of c.in-Some.logical) c.number_of_logical.result
    ((c.shapes_say_types.ensures.says c.in-Some.logical (type_of c.args.dtype.now)).1 c.in-Some.ensures.some) c.number_of_logical.ensures.refused
