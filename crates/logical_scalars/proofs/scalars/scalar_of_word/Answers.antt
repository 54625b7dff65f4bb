use Rattle.std.proofs.Common.{◌≡◌, arith, to_z, of_z}
use mir.Syntax.{w128}
use Rattle.std.proofs.lemmas.Int.{ints}
use Rattle.logical_scalars.proofs.Made.{of_word}
use Rattle.logical_scalars.proofs.scalars.scalar_of_word.Goals as goal

pub returns-in-Some-clause-made : goal.returns-in-Some-clause-made
returns-in-Some-clause-made c =
    let e : to_z w128 (of_z w128 c.in-Some.storage) ≡ c.in-Some.storage = omega (arith, ints) in
    of_word c.args.logical c.args.nullability c.args.word.now _ c.in-Some.storage c.scalar_of_storage.result e c.in-Some.ensures.some c.in-Some.ensures.valid c.scalar_of_storage.ensures.made
