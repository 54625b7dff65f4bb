-- The law, by that of encodings.
use Rattle.column_filters.proofs.Deciding.{named_decide}
use Rattle.column_filters.proofs.laws.named_pieces_decide.Goals as goal

pub returns : goal.returns
returns c = named_decide c.encodings_tell_statistics.ensures
