use Rattle.record_search.proofs.FoundLaws.{all_found}
use Rattle.record_search.proofs.laws.indexes_find_all.Goals as goal

pub returns : goal.returns
returns c = all_found
