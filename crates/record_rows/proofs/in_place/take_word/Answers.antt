-- A number, and a string.
use Rattle.vortex_statistics.specs.Statistics.{known_bound}
use Rattle.record_rows.proofs.Within.{text_taken}
use Rattle.record_rows.proofs.in_place.take_word.Goals as goal

pub returns-in-Utf8-clause-taken : goal.returns-in-Utf8-clause-taken
returns-in-Utf8-clause-taken c = λ yes.
    text_taken c.args.column c.args.word.now (known_bound c.args.lower.now) (known_bound c.args.upper.now) c.in-Utf8.is (c.is_text_inside.ensures yes)
