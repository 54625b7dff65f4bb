use Rattle.filter_encoding.proofs.HeightLaws.{low_nest}
use Rattle.filter_encoding.proofs.laws.low_filters_nest.Goals as goal

pub returns : goal.returns
returns c = low_nest
