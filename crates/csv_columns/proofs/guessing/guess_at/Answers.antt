-- The guess at its place has seen the words of its column.
use Rattle.csv_columns.proofs.Columns.{first_sees, guess_past, guess_there}
use Rattle.csv_columns.proofs.guessing.guess_at.Goals as goal

pub returns-then-place-guesses : goal.returns-then-place-guesses
returns-then-place-guesses c = λ words see. guess_there c.args.guesses.now c.args.place _ words see c.if-place-guesses.true

pub returns-else-place-guesses : goal.returns-else-place-guesses
returns-else-place-guesses c = λ words see. guess_past c.args.guesses.now c.args.place _ words c.if-place-guesses.false first_sees
