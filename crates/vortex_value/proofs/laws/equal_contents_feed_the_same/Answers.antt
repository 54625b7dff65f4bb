use Rattle.vortex_value.specs.Lemmas.HashLaws.{equal_feed_same}
use Rattle.vortex_value.proofs.laws.equal_contents_feed_the_same.Goals as goal

pub returns : goal.returns
returns c = equal_feed_same
