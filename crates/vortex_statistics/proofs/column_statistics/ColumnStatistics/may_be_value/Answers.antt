use Rattle.std.proofs.Common.{◌≡◌, nat_lt, sym, ◌∙◌, rules}
use Rattle.vortex_statistics.specs.Statistics.{known, may_be_value}
use Rattle.vortex_statistics.proofs.CountLaws.{no_value}
use Rattle.vortex_statistics.proofs.column_statistics.ColumnStatistics.may_be_value.Goals as goal

pub returns-in-Some-clause-none : goal.returns-in-Some-clause-none
returns-in-Some-clause-none c =
    let said : nat_lt c.in-Some.nulls c.args.self.now.row_count ≡ may_be_value (known c.args.self.now) = search rules in λ e. no_value (known c.args.self.now) (sym said ∙ e)

pub returns-in-None-clause-none : goal.returns-in-None-clause-none
returns-in-None-clause-none c =
    let said : nat_lt 0 c.args.self.now.row_count ≡ may_be_value (known c.args.self.now) = search rules in λ e. no_value (known c.args.self.now) (sym said ∙ e)
