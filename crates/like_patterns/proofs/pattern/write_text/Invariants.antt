use Rattle.std.specs.Fmt.{HasWritten, IsPlainFormatter}
use Rattle.like_patterns.specs.Pieces.{literals}
use Rattle.like_patterns.specs.Texts.{pattern_text, quotable_text}
use Rattle.like_patterns.proofs.pattern.write_text.Given as goal

abbrev pub invariant-loop-character : goal.invariant-loop-character
invariant-loop-character g l = IsPlainFormatter l.fn.f → HasWritten g.W.Write.write_str_gives l.fn.f (quotable_text l.quote (pattern_text (literals l.yielded))) l.f
