use Rattle.record_search.proofs.LessIndex.{index_less}
use Rattle.record_search.proofs.laws.indexes_are_read_back.Goals as goal

pub returns : goal.returns
returns c = index_less
