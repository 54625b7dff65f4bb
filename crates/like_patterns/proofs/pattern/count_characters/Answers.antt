-- As many as stand for themselves.
use Rattle.std.proofs.Common.{sym, ◌∙◌}
use Rattle.std.proofs.lemmas.List.{length-map}
use Rattle.std.proofs.lemmas.Iterator.{YieldsList-from_chars}
use Rattle.std.proofs.lemmas.Iterator.Consumers.{count_from_yields_List}
use Rattle.std.specs.Str.{chars}
use Rattle.like_patterns.specs.Patterns.{literal}
use Rattle.like_patterns.proofs.pattern.count_characters.Goals as goal

pub returns : goal.returns
returns c = count_from_yields_List _ _ c.count.ensures.ran (YieldsList-from_chars c.args.text.now c.utf8.text cc) ∙ sym (length-map (chars c.args.text.now) literal)
