use Rattle.vortex_value.proofs.CastLaws.{casts_keep_scalars, chains_keep_values}
use Rattle.vortex_value.proofs.laws.equality_and_order_are_kept.Goals as goal

pub returns-clause-values : goal.returns-clause-values
returns-clause-values c = chains_keep_values

pub returns-clause-scalars : goal.returns-clause-scalars
returns-clause-scalars c = casts_keep_scalars
