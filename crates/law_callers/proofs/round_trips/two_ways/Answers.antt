-- One cast after the other is a chain, and the cast at once is another to the same type.
use Rattle.vortex_value.specs.Values.Scalars.{scalar_raw, scalar_type}
use Rattle.law_callers.proofs.ListCasts.{ways_agree}
use Rattle.law_callers.proofs.round_trips.two_ways.Goals as goal

pub returns : goal.returns
returns c =
    ways_agree c.calls_are_chains.ensures c.chains_agree.ensures (scalar_type c.args.scalar.now) (scalar_raw c.args.scalar.now)
    c.in_ok-step.step c.in_ok-chained.chained c.in_ok-direct.direct _ _ c.requires
    c.in_ok-step.ensures.succeeds_only c.in_ok-step.ensures.one
    c.in_ok-chained.ensures.succeeds_only c.in_ok-chained.ensures.one
    c.in_ok-direct.ensures.succeeds_only c.in_ok-direct.ensures.one
