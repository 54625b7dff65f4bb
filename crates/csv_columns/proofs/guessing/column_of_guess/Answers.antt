-- The column that the guess says.
use Rattle.std.proofs.Common.{refl}
use Rattle.csv_columns.proofs.guessing.column_of_guess.Goals as goal

pub returns : goal.returns
returns c = λ words sees. record { kind = c.kind.ensures.guessed words sees; nulls = refl; fits = c.kind.ensures.fits words sees }
