-- Each number is the next one of the line.
use Rattle.std.proofs.Common.{ℕ, arith, cond, subst}
use Rattle.std.proofs.lemmas.Fmt.{parse-decimal}
use Rattle.csv_columns.specs.Setups.{SaysNumber}
use Rattle.csv_columns.proofs.Clear.{err_is_not, ok_same, one_is_digit, same_numbers, says_joined, says_parsed, some_same}
use Rattle.csv_columns.proofs.setup.numbers_of.Goals as goal

pub returns-in-Ok-clause-back : goal.returns-in-Ok-clause-back
returns-in-Ok-clause-back c = λ numbers fit is.
    let first = c.in_ok-delimiter.ensures.back numbers.delimiter _ (omega (arith, fit.delimiter)) is in
    let second = c.in_ok-lenient.ensures.back (cond numbers.is_lenient 1 0) _ (one_is_digit numbers.is_lenient) first.1 in
    let third = c.in_ok-bound_length.ensures.back numbers.bound_length _ fit.bound_length second.1 in
    same_numbers _ numbers
    first.0
    (some_same _ _ (c.in_ok-is_lenient.ensures.back numbers.is_lenient second.0))
    third.0
    (ok_same _ numbers.zone_rows c.parse.result c.in-Ok.is (parse-decimal 64 numbers.zone_rows _ c.parse.result fit.zone_rows fit.zone_rows third.1 c.parse.ensures.value.0))

pub returns-in-Ok-clause-says : goal.returns-in-Ok-clause-says
returns-in-Ok-clause-says c =
    let first = c.in_ok-delimiter.ensures.says in
    let second = c.in_ok-lenient.ensures.says in
    let third = c.in_ok-bound_length.ensures.says in
    record {
      delimiter = first.0;
      lenient = second.0;
      bound_length = third.0;
      zone_rows = c.in_ok-bound_length.rows.now;
      text = says_joined _ _ _ _ first.0 second.0 third.0 first.2 second.2 third.2;
      delimiter_is = first.1;
      lenient_is = subst (λ (n : ℕ). SaysNumber second.0 n) c.in_ok-is_lenient.ensures.says second.1;
      bound_length_is = third.1;
      zone_rows_is = says_parsed c.in_ok-bound_length.rows.now c.in-Ok.zone_rows c.parse.result c.in-Ok.is c.parse.ensures.value.0;
    }

pub returns-in-Err-clause-back : goal.returns-in-Err-clause-back
returns-in-Err-clause-back c = λ numbers fit is.
    let first = c.in_ok-delimiter.ensures.back numbers.delimiter _ (omega (arith, fit.delimiter)) is in
    let second = c.in_ok-lenient.ensures.back (cond numbers.is_lenient 1 0) _ (one_is_digit numbers.is_lenient) first.1 in
    let third = c.in_ok-bound_length.ensures.back numbers.bound_length _ fit.bound_length second.1 in
    absurd (err_is_not _ numbers.zone_rows c.parse.result c.in-Err.is (parse-decimal 64 numbers.zone_rows _ c.parse.result fit.zone_rows fit.zone_rows third.1 c.parse.ensures.value.0))
