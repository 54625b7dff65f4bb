-- At the place of the word.
use Rattle.vortex_dtype.specs.TypeOf.{type_of}
use Rattle.logical_types.specs.Shapes.{decimals, place_in}
use Rattle.vortex_filter.specs.Literals.{decimal_at}
use Rattle.vortex_filter.proofs.LiteralTypes.{by_place, no_place}
use Rattle.vortex_filter.proofs.MemorySteps.{asks_place}
use Rattle.vortex_filter.proofs.literals.decimal_in.Goals as goal

pub returns-in-Some-clause-value : goal.returns-in-Some-clause-value
returns-in-Some-clause-value c =
    by_place (decimal_at (type_of c.args.dtype.now) (decimals c.args.decimal.precision c.args.decimal.scale)) (place_in c.args.decimal.precision c.args.decimal.scale c.args.word.now) c.in-Some.place c.decimal_at.result
    (rw c.as_bytes.ensures.value at c.in-Some.ensures.value) c.decimal_at.ensures.value

pub returns-in-None-clause-value : goal.returns-in-None-clause-value
returns-in-None-clause-value c =
    no_place (decimal_at (type_of c.args.dtype.now) (decimals c.args.decimal.precision c.args.decimal.scale)) (place_in c.args.decimal.precision c.args.decimal.scale c.args.word.now) (rw c.as_bytes.ensures.value at c.in-None.ensures.value)

pub returns-in-Some-clause-refused : goal.returns-in-Some-clause-refused
returns-in-Some-clause-refused c =
    asks_place (decimal_at (type_of c.args.dtype.now) (decimals c.args.decimal.precision c.args.decimal.scale)) (place_in c.args.decimal.precision c.args.decimal.scale c.args.word.now) c.in-Some.place c.decimal_at.result
    (rw c.as_bytes.ensures.value at c.in-Some.ensures.value) c.decimal_at.ensures.refused
