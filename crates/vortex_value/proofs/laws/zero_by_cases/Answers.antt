use Rattle.vortex_value.proofs.ZeroCases.{zero_by_cases}
use Rattle.vortex_value.proofs.laws.zero_by_cases.Goals as goal

pub returns : goal.returns
returns c = zero_by_cases
