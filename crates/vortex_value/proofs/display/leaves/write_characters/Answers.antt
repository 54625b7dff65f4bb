use Rattle.std.proofs.Common.{◌≡◌, sym, ◌∙◌, ap, rules}
use Rattle.std.proofs.Output.{has_written_of_eq}
use Rattle.std.proofs.lemmas.Iterator.{YieldsList-from_chars}
use Rattle.std.proofs.lemmas.Iterator.Consumers.{YieldsList-end}
use Rattle.std.proofs.lemmas.List.{map-id}
use Rattle.std.specs.List.{flat_map}
use Rattle.std.specs.Str.{chars}
use Rattle.vortex_value.specs.Texts.{escaped_char}
use Rattle.vortex_value.proofs.display.leaves.write_characters.Goals as goal

pub returns : goal.returns
returns g c plain ok =
    let end = YieldsList-end (YieldsList-from_chars c.args.text.now c.utf8.text cc) c.loop-character.yielded _ c.loop-character.yielded_by _ _ c.in-None.is c.next.ensures.steps in
    has_written_of_eq _ _ _ _ _ (ap (flat_map escaped_char) (sym (map-id c.loop-character.yielded) ∙ end.0)) (c.loop-character.invariant plain)

pub returns-then-are_kept : goal.returns-then-are_kept
returns-then-are_kept g c plain ok =
    let kept : flat_map escaped_char (chars c.args.text.now) ≡ c.args.text.now = c.are_kept.ensures (search rules) in
    has_written_of_eq _ _ _ _ _ (sym kept) (c.write_str.ensures.writes plain ok)
