use Rattle.std.proofs.Common.{sym, ◌∙◌, arith, rules, length, ◌≤◌, ◌<◌}
use Rattle.std.proofs.Output.{has_written_append, has_written_of_eq}
use Rattle.std.proofs.lemmas.Str.{encodes-chars}
use Rattle.std.specs.Str.{chars, encode_utf8_all}
use Rattle.vortex_value.proofs.TextSteps.{shortened_whole, shortened_ends, last_five}
use Rattle.vortex_value.proofs.display.leaves.write_shortened.Goals as goal

pub returns-then-count : goal.returns-then-count
returns-then-count g c plain ok =
    let few : length (chars c.args.text.now) ≤ 10 = rw c.count_characters-count.ensures at c.if-count.true in
    has_written_of_eq _ _ _ _ _ (sym (shortened_whole encode_utf8_all _ few ∙ encodes-chars _ c.utf8.text)) (c.write_str.ensures.writes plain ok)

pub returns : goal.returns
returns g c plain ok =
    let characters = chars c.args.text.now in
    let many : 10 < length characters = rw c.count_characters-count.ensures at c.if-count.false in
    let first = c.write_shown.ensures plain (search rules) in
    let points = c.write_str-2.ensures.writes first.plain (search rules) in
    let last = c.write_shown-2.ensures points.plain ok in
    let ends = rw (c.count_characters-count.ensures, last_five 5 characters (omega arith)) at last in
    rw (shortened_ends encode_utf8_all characters many) (has_written_append _ _ _ _ _ _ first (has_written_append _ _ _ _ _ _ points ends))
