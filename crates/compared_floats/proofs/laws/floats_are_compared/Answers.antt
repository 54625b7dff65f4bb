use Rattle.compared_floats.proofs.Compared.{compared}
use Rattle.compared_floats.proofs.laws.floats_are_compared.Goals as goal

pub returns : goal.returns
returns c = compared c.searches_find_all.ensures.zone c.comparisons_stand.ensures.values
