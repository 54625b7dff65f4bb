use Rattle.named_statistics.proofs.NameLaws.{tell_types}
use Rattle.named_statistics.proofs.laws.names_tell_types.Goals as goal

pub returns : goal.returns
returns c = tell_types
