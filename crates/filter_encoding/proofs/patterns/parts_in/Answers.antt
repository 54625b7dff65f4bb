-- The text of the pattern spells its parts.
use Rattle.std.proofs.Common.{◌∙◌}
use Rattle.filter_encoding.proofs.PatternSteps.{parts_of_spelled, text_spells}
use Rattle.filter_encoding.proofs.patterns.parts_in.Goals as goal

pub returns-clause-parts : goal.returns-clause-parts
returns-clause-parts c =
    parts_of_spelled c.parts_spelled.result _ c.args.pattern.now c.parts_spelled.ensures.parts
    (text_spells c.texts_come_back.ensures.escaped c.args.pattern.now c.as_str.result.now c.as_str.utf8 (c.as_str.ensures.value ∙ c.in_ok-text.ensures.ok))
