-- A word that is no size.
use Rattle.std.proofs.Common.{⊎_elim}
use Rattle.rows.proofs.Numerals.{read_in_part, read_nothing, read_more_than_size}
use Rattle.rows.proofs.numbers.size_named.Goals as goal

pub returns-then-count-eq0 : goal.returns-then-count-eq0
returns-then-count-eq0 c =
    let read = c.leading_digits-size.ensures in
    ⊎_elim (read_nothing _ _ _ read) (λ more. ⊎_elim (λ part. read_in_part _ _ _ read part.1) (λ many. read_more_than_size _ _ _ read many.2) more) c.then-count-eq0.either
