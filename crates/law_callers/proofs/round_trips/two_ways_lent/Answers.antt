-- So it is for a scalar that is lent.
use Rattle.vortex_value.specs.Values.Refs.{ref_raw, ref_type}
use Rattle.law_callers.proofs.ListCasts.{ways_agree}
use Rattle.law_callers.proofs.round_trips.two_ways_lent.Goals as goal

pub returns : goal.returns
returns c =
    ways_agree c.calls_are_chains.ensures c.chains_agree.ensures (ref_type c.args.lent.now) (ref_raw c.args.lent.now)
    c.in_ok-step.step c.in_ok-chained.chained c.in_ok-direct.direct _ _ c.requires
    c.in_ok-step.ensures.succeeds_only c.in_ok-step.ensures.one
    c.in_ok-chained.ensures.succeeds_only c.in_ok-chained.ensures.one
    c.in_ok-direct.ensures.succeeds_only c.in_ok-direct.ensures.one
