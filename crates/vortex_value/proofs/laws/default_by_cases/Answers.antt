use Rattle.vortex_value.proofs.ZeroCases.{default_by_cases}
use Rattle.vortex_value.proofs.laws.default_by_cases.Goals as goal

pub returns : goal.returns
returns c = default_by_cases
