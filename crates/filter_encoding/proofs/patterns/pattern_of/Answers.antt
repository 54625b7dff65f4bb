-- The text of the parts spells them.
use Rattle.std.proofs.Common.{map, sym, ◌∙◌}
use Rattle.std.proofs.lemmas.Option.{same_Some}
use Rattle.filter_encoding.specs.Patterns.{part_of}
use Rattle.filter_encoding.proofs.PatternSteps.{text_spells}
use Rattle.filter_encoding.proofs.patterns.pattern_of.Goals as goal

pub returns-in-Ok-clause-made : goal.returns-in-Ok-clause-made
returns-in-Ok-clause-made c =
    same_Some _ _ (sym c.in-Ok.ensures.read ∙ text_spells c.texts_come_back.ensures.escaped (map part_of c.args.parts.now) c.as_str.result.now c.as_str.utf8 (c.as_str.ensures.value ∙ c.in_ok-text.ensures.text))
