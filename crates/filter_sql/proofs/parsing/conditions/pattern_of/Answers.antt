-- The escape ends the text, which spells no pattern then.
use Rattle.std.proofs.Common.{Err, ap, refl}
use Rattle.like_patterns.specs.declared.error.PatternError.{PatternError}
use Rattle.filter_sql.proofs.parsing.conditions.pattern_of.Goals as goal

pub returns-in-Err-EscapeAtEnd : goal.returns-in-Err-EscapeAtEnd
returns-in-Err-EscapeAtEnd c = ((c.in-Err-EscapeAtEnd.ensures.refused c.in-Err-EscapeAtEnd.field-0-0 (ap (λ (e : PatternError). Err e) c.in-Err-EscapeAtEnd.field-0-is)).none, refl)
