use Rattle.std.proofs.Common.{sym, ◌∙◌}
use Rattle.vortex_dtype.specs.TypeOf.{type_of}
use Rattle.vortex_filter.proofs.CheckSteps.{all_are}
use Rattle.vortex_filter.proofs.check.are_of_type.Goals as goal

pub returns : goal.returns
returns c = c.all_of_type.ensures ∙ sym (all_are (type_of c.args.dtype.now) c.args.scalars.now)
