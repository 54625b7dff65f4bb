use Rattle.vortex_dtype.specs.Lemmas.TypeLaws.{tree_eq-Decides}
use Rattle.vortex_dtype.proofs.laws.equality_decides.Goals as goal

pub returns : goal.returns
returns c = λ s t. tree_eq-Decides s t
