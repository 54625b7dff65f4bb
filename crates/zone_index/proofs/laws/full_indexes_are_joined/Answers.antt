-- The law.
use Rattle.zone_index.proofs.Joining.{joined}
use Rattle.zone_index.proofs.laws.full_indexes_are_joined.Goals as goal

pub returns : goal.returns
returns g c = joined (g.D.Records.delimiter c.args.describer.now) (g.D.Records.has_row c.args.describer.now) (g.D.Describer.DescribesFully c.args.describer.now)
