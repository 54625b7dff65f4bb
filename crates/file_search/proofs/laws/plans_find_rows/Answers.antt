use Rattle.file_search.proofs.PlanLaws.{plans_find}
use Rattle.file_search.proofs.laws.plans_find_rows.Goals as goal

pub returns : goal.returns
returns c = plans_find c.decisions_are_right.ensures
