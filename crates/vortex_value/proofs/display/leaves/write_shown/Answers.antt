use Rattle.std.proofs.Common.{◌≡◌, [], ◌∷◌, ◌++◌, sym, ◌∙◌, ap, rules, append-nil, encode_utf8}
use Rattle.std.proofs.Output.{has_written_append, has_written_of_eq}
use Rattle.std.proofs.lemmas.Iterator.{YieldsList-from_chars, YieldsList-from_take}
use Rattle.std.proofs.lemmas.Iterator.Adapters.{YieldsList-from_skip}
use Rattle.std.proofs.lemmas.Iterator.Consumers.{YieldsList-end}
use Rattle.std.proofs.lemmas.List.{map-id}
use Rattle.std.proofs.lemmas.Str.{encodes-append}
use Rattle.std.specs.Str.{encode_utf8_all}
use Rattle.vortex_value.proofs.display.leaves.write_shown.Goals as goal

pub loop-character-preserved : goal.loop-character-preserved
loop-character-preserved g c plain =
    let wrote = c.loop-character.invariant plain in
    let last : encode_utf8_all (c.loop-character.yielded ++ c.in-Some.character ∷ []) ≡ encode_utf8_all c.loop-character.yielded ++ encode_utf8 c.in-Some.character
    = encodes-append c.loop-character.yielded (c.in-Some.character ∷ []) ∙ ap (λ l. encode_utf8_all c.loop-character.yielded ++ l) (append-nil _) in
    has_written_of_eq _ _ _ _ _ (sym last) (has_written_append _ _ _ _ _ _ wrote (c.write_char.ensures.writes wrote.plain (search rules)))

pub returns : goal.returns
returns g c plain ok =
    let items = YieldsList-from_take 5 (YieldsList-from_skip c.args.from (YieldsList-from_chars c.args.text.now c.utf8.text cc) cc) cc in
    let end = YieldsList-end items c.loop-character.yielded _ c.loop-character.yielded_by _ _ c.in-None.is c.next.ensures.steps in
    has_written_of_eq _ _ _ _ _ (ap encode_utf8_all (sym (map-id c.loop-character.yielded) ∙ end.0)) (c.loop-character.invariant plain)
