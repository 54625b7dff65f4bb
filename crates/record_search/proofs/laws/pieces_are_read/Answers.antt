use Rattle.record_search.proofs.DecodeLaws.{pieces_read}
use Rattle.record_search.proofs.laws.pieces_are_read.Goals as goal

pub returns : goal.returns
returns c = pieces_read
