-- A string begins with the bytes of another just if it begins with its characters.
use Rattle.std.proofs.Common.{◌≡◌, ◌++◌, ◌∙◌, List, ℕ, ap, drop, eqb, length, rules, sym}
use Rattle.std.proofs.lemmas.Bool.Decides.{Decides-eqb}
use Rattle.std.proofs.lemmas.Slice.Eq.{starts_is}
use Rattle.std.proofs.lemmas.Str.{chars-append, encodes-append, encodes-chars}
use Rattle.std.specs.List.{starts_with}
use Rattle.std.specs.Str.{chars, encode_utf8_all}
use Rattle.law_callers.proofs.patterns.begins_with.Goals as goal

pub returns : goal.returns
returns c =
    let text = c.args.text.now in
    let prefix = c.args.prefix.now in
    let is_text : c.as_bytes.result.now ≡ text = search rules in
    let is_prefix : c.as_bytes-2.result.now ≡ prefix = search rules in
    let same = ap (λ (bytes : List ℕ). starts_with eqb bytes c.as_bytes-2.result.now) is_text ∙ ap (λ (bytes : List ℕ). starts_with eqb text bytes) is_prefix in
    let starts = starts_is Decides-eqb text prefix c.starts_with.result (c.starts_with.ensures.value ∙ same) in (
      λ same. (chars (drop (length prefix) text), ap chars (starts.0 same) ∙ chars-append prefix (drop (length prefix) text) c.utf8.prefix),
      λ begins. starts.1 (encode_utf8_all begins.0)
          (sym (encodes-chars text c.utf8.text) ∙ ap encode_utf8_all begins.1 ∙ encodes-append (chars prefix) begins.0 ∙ ap (λ (bytes : List ℕ). bytes ++ encode_utf8_all begins.0) (encodes-chars prefix c.utf8.prefix)),
    )
