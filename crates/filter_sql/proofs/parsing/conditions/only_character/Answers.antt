-- One character and then nothing, or more.
use Rattle.std.proofs.Common.{◌∙◌, sym}
use Rattle.std.proofs.lemmas.List.{nil_from_length}
use Rattle.filter_sql.proofs.TestSteps.{more_characters, one_character}
use Rattle.filter_sql.proofs.parsing.conditions.only_character.Goals as goal

pub returns-in-Some : goal.returns-in-Some
returns-in-Some c = sym (more_characters c.args.text.now _ _ c.in_ok-first.first c.in-Some.field-0 c.utf8.text (sym c.chars-characters.ensures.rest ∙ c.in_ok-first.ensures.steps.0) c.in-Some.ensures.steps.0)

pub returns-in-None : goal.returns-in-None
returns-in-None c = sym (one_character c.args.text.now _ c.in_ok-first.first c.utf8.text (sym c.chars-characters.ensures.rest ∙ c.in_ok-first.ensures.steps.0) (nil_from_length _ c.in-None.ensures.steps.0.0))
