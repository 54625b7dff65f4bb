use Rattle.std.proofs.Common.{ap}
use Rattle.vortex_dtype.specs.Feeds.{tree_feed}
use Rattle.vortex_dtype.proofs.laws.same_types_feed_the_same.Goals as goal

pub returns : goal.returns
returns c = λ s t h. ap tree_feed h
