-- What the chain gave, the cast answers.
use Rattle.std.proofs.Common.{inl, [], ◌∷◌}
use Rattle.law_callers.proofs.round_trips.at_once.Goals as goal

pub returns : goal.returns
returns c =
    c.no_way_round.ensures.calls _ _ _ (_ ∷ []) _ c.cast.result c.requires.chain c.requires.source.0 c.requires.last.0
    (inl (c.requires.source.1, c.requires.last.1))
    c.cast.ensures
