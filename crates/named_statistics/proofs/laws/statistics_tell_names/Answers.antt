use Rattle.named_statistics.proofs.NameLaws.{tell_names}
use Rattle.named_statistics.proofs.laws.statistics_tell_names.Goals as goal

pub returns : goal.returns
returns c = tell_names
