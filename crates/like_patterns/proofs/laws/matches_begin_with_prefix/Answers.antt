-- The law.
use Rattle.like_patterns.proofs.PatternLaws.{matches_begin}
use Rattle.like_patterns.proofs.laws.matches_begin_with_prefix.Goals as goal

pub returns : goal.returns
returns c = matches_begin
