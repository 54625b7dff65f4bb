-- Decimals are first, then days.
use Rattle.std.proofs.Common.{◌∙◌, sym}
use Rattle.csv_columns.proofs.GuessLaws.{days_first, decimals_first, others_then, timestamps_then}
use Rattle.csv_columns.proofs.kinds.Guess.logical.Goals as goal

pub returns-in-Some : goal.returns-in-Some
returns-in-Some c = λ words sees. decimals_first words c.args.self.decimals _ sees.longest c.in-Some.ensures

pub returns-then-self : goal.returns-then-self
returns-then-self c = λ words sees.
    days_first words (sym sees.dates ∙ c.if-self.true) ∙ others_then words c.args.self.decimals sees.longest c.in_default.ensures

pub returns : goal.returns
returns c = λ words sees.
    c.logical.ensures words sees.moments ∙ timestamps_then words (sym sees.dates ∙ c.if-self.false)
    ∙ others_then words c.args.self.decimals sees.longest c.in_default.ensures
