-- One cast after the other is a chain.
use Rattle.law_callers.proofs.ListCasts.{by_way, if_both}
use Rattle.law_callers.proofs.round_trips.by_way_of.Goals as goal

pub returns : goal.returns
returns c =
    if_both c.cast-2.result _ _ _ c.cast-2.ensures.succeeds_only c.cast-2.ensures.one
    (λ made can one. by_way c.calls_are_chains.ensures _ _ c.in_ok-step.step made _ _ c.requires
    c.in_ok-step.ensures.succeeds_only c.in_ok-step.ensures.one can one)
