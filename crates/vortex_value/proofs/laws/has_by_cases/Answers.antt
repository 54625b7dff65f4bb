use Rattle.vortex_value.proofs.ContentLaws.{has_by_cases}
use Rattle.vortex_value.proofs.laws.has_by_cases.Goals as goal

pub returns : goal.returns
returns c = has_by_cases
