use Rattle.std.proofs.Common.{◌≡◌, arith, inl, length, refl, take}
use Rattle.std.proofs.lemmas.List.{length-take}
use Rattle.vortex_bounds.specs.Strings.{HasNoUpper, IsLower, IsUpper}
use Rattle.vortex_c.proofs.ColumnBounds.{stopped, written}
use Rattle.vortex_c.proofs.column_bounds.doqallin_column_bounds_bytes.Goals as goal

pub returns-in-Ok-upper_of_bytes-clause-answer : goal.returns-in-Ok-upper_of_bytes-clause-answer
returns-in-Ok-upper_of_bytes-clause-answer c =
    let given = c.give_both.ensures in
    let l : length (take c.lower_length_of_bytes.result c.value_of-least.result.now) ≡ c.lower_length_of_bytes.result = omega (arith, length-take c.lower_length_of_bytes.result c.value_of-least.result.now, c.lower_length_of_bytes.ensures.within) in
    written IsLower IsUpper HasNoUpper _ _ _ _ _ _ _ (take c.lower_length_of_bytes.result c.value_of-least.result.now) _ c.in-Ok-upper_of_bytes.upper _ _ _ _ _
    c.in-Ok.ensures.column c.in-Ok.ensures.least c.in-Ok.ensures.greatest c.value_of-least.ensures c.value_of-greatest.ensures
    c.lower_length_of_bytes.ensures.bound (omega (arith, l, c.lower_length_of_bytes.ensures.fits)) (omega (arith, l, c.lower_length_of_bytes.ensures.within)) refl
    c.in-Ok-upper_of_bytes.ensures.given c.in-Ok-upper_of_bytes.ensures.fits c.in-Ok-upper_of_bytes.ensures.within c.slice_of.ensures
    given.statuses given.lower given.upper given.has_upper given.lower_given given.upper_given given.within given.small

pub returns-clause-answer : goal.returns-clause-answer
returns-clause-answer c =
    stopped IsLower IsUpper HasNoUpper _ _ _ _ _ _ _ _ _ (inl refl) c.in-Ok.ensures.column c.in-Ok.ensures.greatest c.value_of-greatest.ensures
    (λ h. let f = c.in-Err-upper_of_bytes.ensures.inline h in cc) (λ h. let f = c.in-Err-upper_of_bytes.ensures.whole h in cc)
