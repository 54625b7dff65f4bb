use Rattle.std.proofs.Common.{◌≡◌, ◌∙◌, ℕ, ℤ, List, arith, w32, to_z, of_z}
use Rattle.std.proofs.lemmas.Int.{ints}
use Rattle.logical_types.specs.Days.{IsDayWord}
use Rattle.logical_types.proofs.words.date_word.Goals as goal

-- the same word, of the same day
moved : (word text : List ℕ) (day z : ℤ) → text ≡ word → day ≡ z → IsDayWord word day → IsDayWord text z
moved word text day z e n h = record { date = h.date; counted = h.counted ∙ n; written = e ∙ h.written }

pub returns-in_ok-text-in-Some-clause-reads : goal.returns-in_ok-text-in-Some-clause-reads
returns-in_ok-text-in-Some-clause-reads c =
    let e : to_z w32 (of_z w32 c.in-Ok.day) ≡ c.args.storage = omega (arith, ints, c.in-Ok.ensures) in
    moved _ _ _ _ (c.in_ok-text-in-Some.ensures.ok ∙ c.as_str.ensures.value) e c.in-Some.ensures.word

pub returns-in_ok-text-in-Some-clause-printed : goal.returns-in_ok-text-in-Some-clause-printed
returns-in_ok-text-in-Some-clause-printed c =
    let e : to_z w32 (of_z w32 c.in-Ok.day) ≡ c.args.storage = omega (arith, ints, c.in-Ok.ensures) in
    moved _ _ _ _ (c.in_ok-text-in-Some.ensures.ok ∙ c.as_str.ensures.value) e c.in-Some.ensures.word
