-- The box holds the type and the parts.
use Rattle.std.proofs.Common.{refl}
use Rattle.vortex_value.proofs.CopySteps.{given_as, held_tuple}
use Rattle.vortex_value.proofs.copies.boxed_parts.Goals as goal

pub returns : goal.returns
returns c = given_as c.new_box.result (λ made h. held_tuple made.value c.args.dtype _ c.args.parts h refl) c.new_box.ensures
