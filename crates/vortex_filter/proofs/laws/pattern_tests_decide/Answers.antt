use Rattle.vortex_filter.proofs.PatternLaws.{patterns_begin, patterns_know, strings_match}
use Rattle.vortex_filter.proofs.laws.pattern_tests_decide.Goals as goal

pub returns : goal.returns
returns c = record { strings = strings_match; unknown = patterns_know; begin = patterns_begin c.matches_begin_with_prefix.ensures }
