use Rattle.record_search.proofs.PieceLaws.{right_have_pieces}
use Rattle.record_search.proofs.laws.right_indexes_have_pieces.Goals as goal

pub returns : goal.returns
returns c = right_have_pieces
