-- The first line is that of the numbers.
use Rattle.std.proofs.Common.{arith, None, Some}
use Rattle.std.proofs.lemmas.Str.Pattern.{split_after, split_parts}
use Rattle.csv_columns.specs.Setups.{column_lines, numbers_text}
use Rattle.csv_columns.proofs.Clear.{none_is_not, numbers_lack_feed, some_same}
use Rattle.csv_columns.proofs.setup.parts_of.Goals as goal

pub returns-in_err-line-clause-back : goal.returns-in_err-line-clause-back
returns-in_err-line-clause-back c = λ s setup is.
    absurd (split_after 10 _ (numbers_text s.numbers) (column_lines s.columns) None c.in_err-line.ensures.cases (omega arith) is (λ i h. numbers_lack_feed s.numbers setup.numbers i 0 h))

pub returns-in_err-numbers-clause-back : goal.returns-in_err-numbers-clause-back
returns-in_err-numbers-clause-back c = λ s setup is.
    let parts = split_after 10 _ (numbers_text s.numbers) (column_lines s.columns) (Some (c.in_ok-line.line, c.in_ok-line.columns)) c.in_ok-line.ensures.cases (omega arith) is (λ i h. numbers_lack_feed s.numbers setup.numbers i 0 h) in
    absurd (none_is_not s.numbers (c.in_err-numbers.ensures.back s.numbers setup.numbers parts.0))

pub returns-clause-back : goal.returns-clause-back
returns-clause-back c = λ s setup is.
    let parts = split_after 10 _ (numbers_text s.numbers) (column_lines s.columns) (Some (c.in_ok-line.line, c.in_ok-line.columns)) c.in_ok-line.ensures.cases (omega arith) is (λ i h. numbers_lack_feed s.numbers setup.numbers i 0 h) in
    (some_same _ _ (c.in_ok-numbers.ensures.back s.numbers setup.numbers parts.0), parts.1)

pub returns-clause-says : goal.returns-clause-says
returns-clause-says c =
    let parts = split_parts 10 _ (Some (c.in_ok-line.line, c.in_ok-line.columns)) c.in_ok-line.ensures.cases (omega arith) in
    (c.in_ok-line.line.now, c.in_ok-numbers.ensures.says, parts.0)
