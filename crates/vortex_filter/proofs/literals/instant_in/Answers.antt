-- What it says with a zone comes first.
use Rattle.std.proofs.Common.{◌≡◌, ℤ, Some, ap, arith, of_z, to_z, ◌∙◌}
use mir.Syntax.{w128}
use Rattle.std.proofs.lemmas.Int.{ints}
use Rattle.vortex_filter.proofs.LiteralTypes.{instant_plain, instant_zoned}
use Rattle.vortex_filter.proofs.literals.instant_in.Goals as goal

pub returns-in-Some-clause-value : goal.returns-in-Some-clause-value
returns-in-Some-clause-value c =
    let e : to_z w128 (of_z w128 c.in-Some.storage) ≡ c.in-Some.storage = omega (arith, ints) in
    ap (λ (z : ℤ). Some z) e
    ∙ instant_zoned c.shapes_say_words.ensures c.args.unit c.args.text.now c.in-Some.storage (rw c.as_bytes.ensures.value at c.in-Some.ensures.some)

pub returns-in-None-clause-value : goal.returns-in-None-clause-value
returns-in-None-clause-value c =
    instant_plain c.shapes_say_words.ensures c.args.unit c.args.text.now c.storage_of_word-in-None.result
    (rw c.as_bytes.ensures.value at c.in-None.ensures.none) (rw c.as_bytes-in-None.ensures.value at c.storage_of_word-in-None.ensures.some)
    (rw c.as_bytes-in-None.ensures.value at c.storage_of_word-in-None.ensures.none)
