-- The parts so far have no variant's child.
use Rattle.std.proofs.Common.{ap, ◌∙◌}
use Rattle.vortex_value.specs.Values.Content.{content}
use Rattle.vortex_value.specs.Values.RawOf.{raw_of}
use Rattle.vortex_row.specs.Typed.{has_typed}
use Rattle.vortex_row.proofs.TypedSteps.{rest-decides}
use Rattle.vortex_row.proofs.variants.+typed.Goals as goal

pub are_parts_typed-loop-part-preserved : goal.are_parts_typed-loop-part-preserved
are_parts_typed-loop-part-preserved t c =
    rest-decides c.loop-part.part-index c.args.parts.now c.part-item.result _ _ c.loop-part-test.true c.part-item.is (c.is_typed.ensures ∙ ap (λ v. has_typed (content (raw_of v))) c.as_ref.ensures.value) c.if-is_typed.false c.loop-part.invariant
