use Rattle.std.proofs.Common.{take}
use Rattle.std.specs.Fmt.{HasWritten, IsPlainFormatter}
use Rattle.like_patterns.specs.declared.case.Case.TheVariants.{Sensitive}
use Rattle.like_patterns.specs.Pieces.{parts_of}
use Rattle.like_patterns.specs.Texts.{pattern_text, quotable_text}
use Rattle.like_patterns.proofs.pattern.write_pieces.Given as goal

abbrev pub invariant-loop-piece : goal.invariant-loop-piece
invariant-loop-piece g l = IsPlainFormatter l.fn.f → HasWritten g.W.Write.write_str_gives l.fn.f (quotable_text l.quote (pattern_text (parts_of Sensitive (take l.piece-index l.pieces)))) l.f
