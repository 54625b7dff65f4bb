use Rattle.std.proofs.Common.{[], ◌≡◌, ◌∙◌, ◌<◌, ◌≤◌, None, Option, Some, ap, arith, ℕ, ℤ, slice_index_or}
use Rattle.std.proofs.lemmas.List.{get_or_read}
use Rattle.arrow_columns.specs.Cells.{cell_at}
use Rattle.arrow_columns.specs.Integers.{number_of}
use Rattle.arrow_columns.proofs.CellLists.{null_cell, valid_cell}
use Rattle.arrow_columns.proofs.RowSteps.{gathered_first}
use Rattle.arrow_columns.proofs.extremes.with_nulls.Goals as goal

pub by_rows-requires : goal.by_rows-requires
by_rows-requires g c =
    let V : ℕ → ℤ = λ i. number_of g.T.Item.kind (slice_index_or c.args.items.now i []) in
    let C : ℕ → Option ℤ = cell_at c.args.validity.now V in
    let start : ℕ = c.args.start in
    let value : g.T.Item.number c.of_bytes-first.result ≡ V start =
    c.of_bytes-first.ensures ∙ ap (number_of g.T.Item.kind) (get_or_read c.args.items.now _ _ (omega arith) c.index-items-start.is []) in
    let cell : C start ≡ Some (g.T.Item.number c.of_bytes-first.result) = valid_cell c.args.validity.now V start _ c.requires.valid value in
    let nulls : (k : ℕ) → k < start → c.args.from ≤ k → C k ≡ None = λ k l f. null_cell c.args.validity.now V k (c.requires.nulls k l f) in
    (omega (arith, c.requires.narrow), (omega arith, (omega arith, (c.requires.items, (c.requires.bitmap, (c.requires.bits, gathered_first g.T.Item.number C c.args.from start c.of_bytes-first.result c.requires.from cell nulls))))))

pub by_rows-gathered-requires : goal.by_rows-gathered-requires
by_rows-gathered-requires g c =
    let V : ℕ → ℤ = λ i. number_of g.T.Item.kind (slice_index_or c.args.items.now i []) in
    let C : ℕ → Option ℤ = cell_at c.args.validity.now V in
    let start : ℕ = c.args.start in
    let value : g.T.Item.number c.of_bytes-first.result ≡ V start =
    c.of_bytes-first.ensures ∙ ap (number_of g.T.Item.kind) (get_or_read c.args.items.now _ _ (omega arith) c.index-items-start.is []) in
    let cell : C start ≡ Some (g.T.Item.number c.of_bytes-first.result) = valid_cell c.args.validity.now V start _ c.requires.valid value in
    let nulls : (k : ℕ) → k < start → c.args.from ≤ k → C k ≡ None = λ k l f. null_cell c.args.validity.now V k (c.requires.nulls k l f) in
    (omega (arith, c.requires.narrow), (omega arith, (omega arith, (omega arith, (c.requires.bitmap, (omega arith, gathered_first g.T.Item.number C c.args.from start c.of_bytes-first.result c.requires.from cell nulls))))))
