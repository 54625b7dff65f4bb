use Rattle.std.proofs.Common.{◌≡◌, [], ◌∷◌, ◌++◌, sym, ◌∙◌, ap, rules, append-nil, encode_utf8}
use Rattle.std.proofs.lemmas.Iterator.{YieldsList-from_chars}
use Rattle.std.proofs.lemmas.Iterator.Consumers.{YieldsList-end}
use Rattle.std.proofs.lemmas.List.{flat_map_more, map-id}
use Rattle.std.proofs.lemmas.Str.{encodes-append, encodes-chars}
use Rattle.std.specs.List.{flat_map}
use Rattle.std.specs.Str.{chars, encode_utf8_all}
use Rattle.vortex_value.specs.Texts.{escaped_char}
use Rattle.vortex_value.proofs.display.leaves.are_kept.Goals as goal

pub loop-character-preserved : goal.loop-character-preserved
loop-character-preserved c =
    let ys = c.loop-character.yielded in
    let x = c.in-Some.character in
    let kept : escaped_char x ≡ encode_utf8 x = c.is_kept.ensures (search rules) in
    let last : encode_utf8_all (ys ++ x ∷ []) ≡ encode_utf8_all ys ++ encode_utf8 x
    = encodes-append ys (x ∷ []) ∙ ap (λ l. encode_utf8_all ys ++ l) (append-nil _) in
    sym (flat_map_more escaped_char [] ys x) ∙ rw (c.loop-character.invariant, kept) (sym last)

pub returns : goal.returns
returns c = λ _.
    let end = YieldsList-end (YieldsList-from_chars c.args.text.now c.utf8.text cc) c.loop-character.yielded _ c.loop-character.yielded_by _ _ c.in-None.is c.next.ensures.steps in
    let same : c.loop-character.yielded ≡ chars c.args.text.now = sym (map-id c.loop-character.yielded) ∙ end.0 in
    ap (flat_map escaped_char) (sym same) ∙ c.loop-character.invariant ∙ ap encode_utf8_all same ∙ encodes-chars _ c.utf8.text
