use Rattle.std.proofs.Common.{◌≡◌, ◌∙◌, arith, w32, w64, to_z, of_z}
use Rattle.std.proofs.lemmas.Int.{ints}
use Rattle.logical_types.proofs.dates.word_of_day.Goals as goal

pub returns-in-Ok-clause-word : goal.returns-in-Ok-clause-word
returns-in-Ok-clause-word c =
    let e : to_z w64 (of_z w64 (to_z w32 (of_z w32 c.args.day))) ≡ c.args.day = omega (arith, ints) in
    record { date = c.in-Ok.date; counted = c.in-Ok.ensures.value ∙ e; written = c.date_text.ensures }
