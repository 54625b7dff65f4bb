-- No number before, none in the word, or the longest of both.
use Rattle.std.proofs.Common.{◌≡◌, ◌∙◌, ap, length, max, sym}
use Rattle.csv_columns.specs.Kinds.{fraction_of, place_count, size_of, whole_count, whole_of}
use Rattle.csv_columns.proofs.GuessLaws.{digits_more, no_digits_before, no_digits_in, same_digits}
use Rattle.csv_columns.proofs.kinds.longest.Goals as goal

pub returns-in_default : goal.returns-in_default
returns-in_default c = λ words is. no_digits_before words c.args.word.now (sym c.in_default.is ∙ is)

pub returns-in_default-plain_number : goal.returns-in_default-plain_number
returns-in_default-plain_number c = λ words is. no_digits_in words c.args.word.now c.in_default-plain_number.ensures.none

pub returns : goal.returns
returns c = λ words is.
    let plain = c.in-Some-plain_number.ensures.some in
    let size = c.size_of.ensures ∙ ap size_of plain.0 in
    let whole : c.max.result ≡ max c.in-Some.before.whole (whole_count c.args.word.now) =
    c.max.ensures ∙ ap (max c.in-Some.before.whole) (ap length (c.parts_of.ensures.whole ∙ ap whole_of size)) in
    let places : c.max-2.result ≡ max c.in-Some.before.places (place_count c.args.word.now) =
    c.max-2.ensures ∙ ap (max c.in-Some.before.places) (ap length (c.parts_of.ensures.fraction ∙ ap fraction_of size)) in
    same_digits _ _ _ _ whole places ∙ digits_more words c.args.word.now c.in-Some.before (sym c.in-Some.is ∙ is) plain.1
