use Rattle.vortex_value.proofs.CastLaws.{into_nullable_and_back, nullable_casts_back}
use Rattle.vortex_value.proofs.laws.into_nullable_and_back.Goals as goal

pub returns-clause-values : goal.returns-clause-values
returns-clause-values c = into_nullable_and_back

pub returns-clause-calls : goal.returns-clause-calls
returns-clause-calls c = nullable_casts_back
