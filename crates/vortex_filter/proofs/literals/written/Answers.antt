-- The word writes the value.
use Rattle.std.proofs.Common.{◌≡◌, ℤ, arith, of_z, subst, to_z}
use mir.Syntax.{w128}
use Rattle.std.proofs.lemmas.Int.{ints}
use Rattle.vortex_dtype.specs.TypeOf.{type_of}
use Rattle.vortex_cells.specs.Cells.{cell_of}
use Rattle.logical_types.specs.Shapes.{shape_of}
use Rattle.vortex_filter.specs.Literals.{logical_cell}
use Rattle.vortex_filter.proofs.LiteralTypes.{word_absent, word_there}
use Rattle.vortex_filter.proofs.MemorySteps.{asks_word}
use Rattle.vortex_filter.proofs.literals.written.Goals as goal

pub returns-in-Ok-clause-value : goal.returns-in-Ok-clause-value
returns-in-Ok-clause-value c =
    let e : to_z w128 (of_z w128 c.in-Some.storage) ≡ c.in-Some.storage = omega (arith, ints) in
    word_there c.shapes_say_words.ensures (type_of c.args.dtype.now) c.args.logical c.args.word.now c.in-Some.storage c.in-Ok.scalar (rw c.as_bytes.ensures.value at c.in-Some.ensures.some)
    (subst (λ (z : ℤ). cell_of c.in-Ok.scalar ≡ logical_cell (type_of c.args.dtype.now) (shape_of c.args.logical) z) e c.in-Ok.ensures.cell)

pub returns-in-None-clause-value : goal.returns-in-None-clause-value
returns-in-None-clause-value c = word_absent c.shapes_say_words.ensures (type_of c.args.dtype.now) c.args.logical c.args.word.now (rw c.as_bytes.ensures.value at c.in-None.ensures.none)

pub returns-in-Err-clause-refused : goal.returns-in-Err-clause-refused
returns-in-Err-clause-refused c =
    (c.in-Err.ensures.refused.0, asks_word c.shapes_say_words.ensures (type_of c.args.dtype.now) c.args.logical c.args.word.now c.in-Some.storage (rw c.as_bytes.ensures.value at c.in-Some.ensures.some) c.in-Err.ensures.refused.1)
