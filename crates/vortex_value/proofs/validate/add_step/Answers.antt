-- One level up the path has one step more.
use Rattle.std.proofs.Common.{subst}
use Rattle.vortex_value.specs.Steps.Faults.{Shows}
use Rattle.vortex_value.proofs.ValidSteps.{under-steps, some-steps}
use Rattle.vortex_value.proofs.validate.add_step.Goals as goal

pub returns-in-NoMemory : goal.returns-in-NoMemory
returns-in-NoMemory c = λ kept fs h. under-steps c.args.step fs (some-steps fs (subst (λ f. Shows kept f fs) c.in-NoMemory.is h))

pub returns-in-NoPath : goal.returns-in-NoPath
returns-in-NoPath c = λ kept fs h.
    let shown = subst (λ f. Shows kept f fs) c.in-NoPath.is h in
    (shown.0, some-steps _ (under-steps c.args.step fs shown.1))
