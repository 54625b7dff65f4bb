use Rattle.std.proofs.Common.{[], ◌+◌, ◌-◌, ◌/◌, ap, arith, length, ℕ, ℤ, slice_index_or, subst}
use Rattle.std.proofs.lemmas.Nat.{le-div}
use Rattle.arrow_columns.specs.Columns.{end_of}
use Rattle.arrow_columns.specs.Integers.{item_at, number_of}
use Rattle.arrow_columns.specs.Statistics.{AreStatisticsOf}
use Rattle.arrow_columns.proofs.BufferItems.{item_is}
use Rattle.arrow_columns.proofs.CellLists.{values_alike}
use Rattle.arrow_columns.proofs.reading.statistics_of_integers.Goals as goal

pub statistics_of_rows-requires : goal.statistics_of_rows-requires
statistics_of_rows-requires g c =
    let within = le-div (end_of c.args.column) (length c.args.column.values.now) g.row.N c.requires.some c.requires.values in
    (omega (arith, c.requires.narrow), (c.requires.narrow, (omega arith, (omega (arith, c.as_chunks.ensures.front_len, within), c.requires.rows.1))))

pub returns : goal.returns
returns g c =
    let column = c.args.column in
    let m : ℕ = length column.values.now / g.row.N in
    let items = c.as_chunks.result.0.now in
    let F : ℕ → ℤ = λ i. number_of g.T.Item.kind (slice_index_or items i []) in
    let G : ℕ → ℤ = λ i. number_of g.T.Item.kind (item_at g.row.N column.values.now i) in
    let within = le-div (end_of column) (length column.values.now) g.row.N c.requires.some c.requires.values in
    subst (λ cells. AreStatisticsOf cells c.statistics_of_rows.result)
    (values_alike column.validity.now F G column.offset (column.offset + column.length - column.offset) column.length m (omega arith) (omega (arith, within))
    (λ k l. ap (number_of g.T.Item.kind) (item_is g.row.N m column.values.now items k c.as_chunks.ensures.front l)))
    c.statistics_of_rows.ensures
