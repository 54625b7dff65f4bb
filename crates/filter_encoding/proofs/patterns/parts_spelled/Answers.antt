-- What all characters spell.
use Rattle.std.proofs.Common.{sym, ◌∙◌}
use Rattle.std.proofs.lemmas.Iterator.{YieldsList-from_chars}
use Rattle.std.proofs.lemmas.Iterator.Consumers.{YieldsList-end}
use Rattle.std.proofs.lemmas.List.{map-id}
use Rattle.std.specs.Str.{chars}
use Rattle.filter_encoding.proofs.PatternSteps.{spelled_all}
use Rattle.filter_encoding.proofs.patterns.parts_spelled.Goals as goal

pub returns-clause-parts : goal.returns-clause-parts
returns-clause-parts c =
    let yielded = c.loop-character.yielded in
    let end = YieldsList-end (YieldsList-from_chars c.args.text.now c.utf8.text cc) yielded _ c.loop-character.yielded_by _ _ c.in-None.is c.next.ensures.steps in
    spelled_all yielded (chars c.args.text.now) c.loop-character.parts.items c.loop-character.is_escaped (sym (map-id yielded) ∙ end.0) c.loop-character.invariant
