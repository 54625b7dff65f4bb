-- The law.
use Rattle.like_patterns.proofs.PatternLaws.{exact_match}
use Rattle.like_patterns.proofs.laws.exact_match.Goals as goal

pub returns : goal.returns
returns c = exact_match
