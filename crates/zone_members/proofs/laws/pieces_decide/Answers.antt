use Rattle.zone_members.proofs.PieceLaws.{pieces_decide}
use Rattle.zone_members.proofs.laws.pieces_decide.Goals as goal

pub returns : goal.returns
returns c = pieces_decide
