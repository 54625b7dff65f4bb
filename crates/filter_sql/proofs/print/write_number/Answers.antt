use Rattle.std.proofs.Common.{◌+◌, ◌≤◌, ◌^◌, arith, rules, lit<, lt_of_le_of_lt}
use Rattle.std.proofs.Output.{has_written_of_eq}
use Rattle.filter_sql.proofs.Characters.{number_text}
use Rattle.filter_sql.proofs.print.write_number.Goals as goal

pub returns : goal.returns
returns g c plain ok =
    let n = c.args.column + 1 in
    let small : n ≤ 2 ^ 64 = omega arith in
    has_written_of_eq _ _ _ _ _ (number_text n (lt_of_le_of_lt small (lit< tt))) (search rules)
