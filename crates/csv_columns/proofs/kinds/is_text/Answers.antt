-- Texts alone are guessed so.
use Rattle.std.proofs.Common.{subst}
use Rattle.csv_columns.specs.Kinds.{IsGuessed}
use Rattle.csv_columns.proofs.GuessLaws.{others_are, texts_are}
use Rattle.csv_columns.proofs.kinds.is_text.Goals as goal

pub returns-in-Utf8 : goal.returns-in-Utf8
returns-in-Utf8 c = λ guess is. texts_are guess (subst (IsGuessed guess) c.in-Utf8.is is)

pub returns-in_default : goal.returns-in_default
returns-in_default c = λ guess is. others_are guess c.args.kind c.in_default.not-Utf8 is
