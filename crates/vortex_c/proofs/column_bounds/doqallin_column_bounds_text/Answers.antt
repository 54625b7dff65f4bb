use Rattle.std.proofs.Common.{◌∙◌, arith, inl, inr, refl, sym, subst, take, ⊎_elim, IsUtf8}
use Rattle.std.proofs.lemmas.List.{length-take}
use Rattle.std.specs.Option.{option_map}
use Rattle.vortex_bounds.specs.Texts.{HasNoTextUpper, IsTextLower, IsTextUpper}
use Rattle.vortex_c.specs.Uppers.{bytes_of}
use Rattle.vortex_c.proofs.ColumnBounds.{bytes_are_text, stopped, text_of_some, written}
use Rattle.vortex_c.proofs.ColumnEnds.{ends_are_text}
use Rattle.vortex_c.proofs.Truncations.{taken}
use Rattle.vortex_c.proofs.column_bounds.doqallin_column_bounds_text.Goals as goal

pub returns-in_default-clause-no_text : goal.returns-in_default-clause-no_text
returns-in_default-clause-no_text c = λ _. (c.in-Ok.places.least, inl c.in-Ok.ensures.least, c.in_default.ensures)

pub returns-in_default-string_of-clause-answer : goal.returns-in_default-string_of-clause-answer
returns-in_default-string_of-clause-answer c =
    stopped IsTextLower IsTextUpper HasNoTextUpper _ _ _ _ _ _ _ _ _ (inr refl) c.in-Ok.ensures.column c.in-Ok.ensures.greatest refl
    (λ h e. cc) (λ h e. cc)

pub returns-in_default-string_of-clause-no_text : goal.returns-in_default-string_of-clause-no_text
returns-in_default-string_of-clause-no_text c = λ _. (c.in-Ok.places.greatest, inr c.in-Ok.ensures.greatest, c.in_default-string_of.ensures)

pub returns-in-Ok-upper_of_text-clause-answer : goal.returns-in-Ok-upper_of_text-clause-answer
returns-in-Ok-upper_of_text-clause-answer c =
    let given = c.give_both.ensures in
    let k = c.lower_length_of_text.result in
    let least = c.in-Some.least.now in
    written IsTextLower IsTextUpper HasNoTextUpper _ _ _ _ _ _ _ (take k least) _ c.in-Ok-upper_of_text.upper _ _ _ _ _
    c.in-Ok.ensures.column c.in-Ok.ensures.least c.in-Ok.ensures.greatest c.in-Some.ensures.0 c.in-Some-string_of.ensures.0
    c.lower_length_of_text.ensures.bound
    (omega (arith, length-take k least, c.lower_length_of_text.ensures.fits)) (omega (arith, length-take k least))
    (c.as_bytes-lower.ensures.value ∙ c.range.ensures.value ∙ taken k least)
    c.in-Ok-upper_of_text.ensures.given c.in-Ok-upper_of_text.ensures.fits c.in-Ok-upper_of_text.ensures.within c.slice_of.ensures
    given.statuses given.lower given.upper given.has_upper given.lower_given given.upper_given given.within given.small

pub returns-in-Ok-upper_of_text-clause-no_text : goal.returns-in-Ok-upper_of_text-clause-no_text
returns-in-Ok-upper_of_text-clause-no_text c = λ e.
    ⊎_elim (λ g. absurd (omega (arith, e, g))) (λ r. absurd (omega (arith, e, r))) c.give_both.ensures.statuses

pub returns-in-Ok-upper_of_text-clause-text : goal.returns-in-Ok-upper_of_text-clause-text
returns-in-Ok-upper_of_text-clause-text c = λ _.
    ends_are_text c.args.bytes.now c.args.offsets.now c.in-Ok.places.least c.in-Ok.places.greatest c.in-Ok.ensures.least c.in-Ok.ensures.greatest
    c.in-Some.ensures.1 c.in-Some-string_of.ensures.1

pub returns-in-Ok-upper_of_text-clause-text_lower : goal.returns-in-Ok-upper_of_text-clause-text_lower
returns-in-Ok-upper_of_text-clause-text_lower c = λ g. subst IsUtf8 (sym (c.give_both.ensures.lower_given g)) c.as_bytes-lower.ensures.utf8

pub returns-in-Ok-upper_of_text-clause-text_upper : goal.returns-in-Ok-upper_of_text-clause-text_upper
returns-in-Ok-upper_of_text-clause-text_upper c = λ g.
    text_of_some _ _ (option_map bytes_of c.in-Ok-upper_of_text.upper) (c.give_both.ensures.upper_given g ∙ c.slice_of.ensures) (bytes_are_text _ c.in-Ok-upper_of_text.ensures.text)

pub returns-clause-answer : goal.returns-clause-answer
returns-clause-answer c =
    stopped IsTextLower IsTextUpper HasNoTextUpper _ _ _ _ _ _ _ _ _ (inl refl) c.in-Ok.ensures.column c.in-Ok.ensures.greatest c.in-Some-string_of.ensures.0
    (λ h. let f = c.in-Err-upper_of_text.ensures.inline h in cc) (λ h. let f = c.in-Err-upper_of_text.ensures.whole h in cc)

pub returns-clause-text : goal.returns-clause-text
returns-clause-text c = λ _.
    ends_are_text c.args.bytes.now c.args.offsets.now c.in-Ok.places.least c.in-Ok.places.greatest c.in-Ok.ensures.least c.in-Ok.ensures.greatest
    c.in-Some.ensures.1 c.in-Some-string_of.ensures.1
