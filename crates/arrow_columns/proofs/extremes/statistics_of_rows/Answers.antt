use Rattle.std.proofs.Common.{[], ◌≡◌, ◌-◌, ◌<◌, ◌≤◌, None, Option, arith, refl, ℕ, ℤ, slice_index_or}
use Rattle.std.proofs.lemmas.Int.{ints}
use Rattle.arrow_columns.specs.Cells.{cell_at}
use Rattle.arrow_columns.specs.Integers.{number_of}
use Rattle.arrow_columns.proofs.CellLists.{null_cell, statistics_given, statistics_of_nulls}
use Rattle.arrow_columns.proofs.extremes.statistics_of_rows.Goals as goal

pub returns-then-start-end : goal.returns-then-start-end
returns-then-start-end g c =
    let V : ℕ → ℤ = λ i. number_of g.T.Item.kind (slice_index_or c.args.items.now i []) in
    let C : ℕ → Option ℤ = cell_at c.args.validity.now V in
    let nulls : (k : ℕ) → k < c.args.end → c.args.from ≤ k → C k ≡ None =
    λ k l f. null_cell c.args.validity.now V k (c.first_valid-start.ensures.nulls k (omega arith) f) in
    statistics_of_nulls C c.args.from (c.args.end - c.args.from) c.args.end _ (omega arith) refl nulls

pub returns : goal.returns
returns g c =
    let V : ℕ → ℤ = λ i. number_of g.T.Item.kind (slice_index_or c.args.items.now i []) in
    let C : ℕ → Option ℤ = cell_at c.args.validity.now V in
    statistics_given C c.args.from (c.args.end - c.args.from) c.args.end _ _ _ _ _ (omega arith) c.gather-gathered.ensures.nulls
    (omega (arith, ints, c.whole.ensures)) (omega (arith, ints, c.whole-2.ensures)) c.gather-gathered.ensures.least c.gather-gathered.ensures.greatest
