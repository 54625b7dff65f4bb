-- The text is cut behind the number, whose digits are no blank.
use Rattle.std.proofs.Common.{arith, Some, None}
use Rattle.std.specs.Fmt.{decimal}
use Rattle.std.proofs.lemmas.Fmt.{parse-decimal}
use Rattle.std.proofs.lemmas.Str.Pattern.{split_after, split_parts}
use Rattle.csv_columns.proofs.Clear.{decimal_lacks, err_is_not, ok_same, says_parsed}
use Rattle.csv_columns.proofs.setup.number_before.Goals as goal

pub returns-in_err-word-clause-back : goal.returns-in_err-word-clause-back
returns-in_err-word-clause-back c = λ n rest small is.
    absurd (split_after 32 _ (decimal n) rest None c.in_err-word.ensures.cases (omega arith) is (λ i h. decimal_lacks 32 (omega arith) n small i 0 h))

pub returns-in-Ok-clause-back : goal.returns-in-Ok-clause-back
returns-in-Ok-clause-back c = λ n rest small is.
    let parts = split_after 32 _ (decimal n) rest (Some (c.in_ok-word.word, c.in_ok-word.rest)) c.in_ok-word.ensures.cases (omega arith) is (λ i h. decimal_lacks 32 (omega arith) n small i 0 h) in
    (ok_same _ n c.parse.result c.in-Ok.is (parse-decimal 64 n _ c.parse.result small small parts.0 c.parse.ensures.value.0), parts.1)

pub returns-in-Ok-clause-says : goal.returns-in-Ok-clause-says
returns-in-Ok-clause-says c =
    let parts = split_parts 32 _ (Some (c.in_ok-word.word, c.in_ok-word.rest)) c.in_ok-word.ensures.cases (omega arith) in
    (c.in_ok-word.word.now, says_parsed c.in_ok-word.word.now c.in-Ok.number c.parse.result c.in-Ok.is c.parse.ensures.value.0, parts.0)

pub returns-in-Err-clause-back : goal.returns-in-Err-clause-back
returns-in-Err-clause-back c = λ n rest small is.
    let parts = split_after 32 _ (decimal n) rest (Some (c.in_ok-word.word, c.in_ok-word.rest)) c.in_ok-word.ensures.cases (omega arith) is (λ i h. decimal_lacks 32 (omega arith) n small i 0 h) in
    absurd (err_is_not _ n c.parse.result c.in-Err.is (parse-decimal 64 n _ c.parse.result small small parts.0 c.parse.ensures.value.0))
