use Rattle.vortex_pvalue.proofs.WrappedNumbers.{wrapped_exists, wrapped_is_unique}
use Rattle.vortex_pvalue.proofs.laws.one_wrapped_number.Goals as goal

pub returns-clause-exists : goal.returns-clause-exists
returns-clause-exists c = wrapped_exists

pub returns-clause-unique : goal.returns-clause-unique
returns-clause-unique c = wrapped_is_unique
