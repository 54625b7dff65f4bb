use Rattle.vortex_c.proofs.PartSteps.{some_told}
use Rattle.vortex_c.proofs.parts.part_of_bound.Goals as goal

pub returns-in-Some-item_of : goal.returns-in-Some-item_of
returns-in-Some-item_of c = some_told c.args.kind c.args.bound.now c.in-Some.bound _ c.in-Some.is c.in-Some-item_of.ensures
