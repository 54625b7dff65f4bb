-- What is read of right bytes is right.
use Rattle.law_callers.proofs.PieceSteps.{pieces_right}
use Rattle.law_callers.proofs.skipped_zones.can_skip_written.Goals as goal

pub returns : goal.returns
returns c = λ f types bytes offsets p is rows right row among skipped.
    c.can_be_skipped.ensures f types bytes offsets p is rows (pieces_right c.encodings_stay_right.ensures f types bytes offsets p rows right) row among skipped
