use Rattle.vortex_filter.proofs.NamedLaws.{named_columns_decide}
use Rattle.vortex_filter.proofs.laws.named_columns_decide.Goals as goal

pub returns : goal.returns
returns c = named_columns_decide
