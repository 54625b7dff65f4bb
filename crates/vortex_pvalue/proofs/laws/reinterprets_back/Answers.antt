use Rattle.vortex_pvalue.proofs.WrappedNumbers.{reinterprets_back}
use Rattle.vortex_pvalue.proofs.laws.reinterprets_back.Goals as goal

pub returns : goal.returns
returns c = reinterprets_back
