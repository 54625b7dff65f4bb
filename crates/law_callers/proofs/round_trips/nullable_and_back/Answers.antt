-- What was made nullable comes back.
use Rattle.law_callers.proofs.ListCasts.{comes_back}
use Rattle.law_callers.proofs.round_trips.nullable_and_back.Goals as goal

pub returns : goal.returns
returns c =
    comes_back c.into_nullable_and_back.ensures.calls c.args.scalar _ _ c.cast-back.result c.requires.typed c.requires.valid
    c.into_nullable-nullable.ensures.made
    c.cast-back.ensures
