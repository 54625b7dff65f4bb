use Rattle.vortex_value.proofs.WayRound.{no_call_further, no_way_round}
use Rattle.vortex_value.proofs.laws.no_way_round.Goals as goal

pub returns-clause-values : goal.returns-clause-values
returns-clause-values c = no_way_round

pub returns-clause-calls : goal.returns-clause-calls
returns-clause-calls c = no_call_further
