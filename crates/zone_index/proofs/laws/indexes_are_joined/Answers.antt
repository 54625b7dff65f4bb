-- The law.
use Rattle.zone_index.proofs.Joining.{joined}
use Rattle.zone_index.proofs.laws.indexes_are_joined.Goals as goal

pub returns : goal.returns
returns g c = joined (g.R.Records.delimiter c.args.records.now) (g.R.Records.has_row c.args.records.now) (g.R.Records.Describes c.args.records.now)
