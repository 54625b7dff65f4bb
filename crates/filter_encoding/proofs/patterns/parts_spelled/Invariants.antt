-- What the characters so far spell.
use Rattle.filter_encoding.proofs.PatternSteps.{Spelled}
use Rattle.filter_encoding.proofs.patterns.parts_spelled.Given as goal

abbrev pub invariant-loop-character : goal.invariant-loop-character
invariant-loop-character l = Spelled l.yielded l.parts.items l.is_escaped
