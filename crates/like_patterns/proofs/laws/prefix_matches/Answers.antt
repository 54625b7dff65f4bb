-- The law.
use Rattle.like_patterns.proofs.PatternLaws.{prefix_matches}
use Rattle.like_patterns.proofs.laws.prefix_matches.Goals as goal

pub returns : goal.returns
returns c = prefix_matches
