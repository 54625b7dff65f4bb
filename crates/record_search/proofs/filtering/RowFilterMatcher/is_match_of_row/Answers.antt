-- The truth on the cells that are wanted is that on the row, if there is one.
use Rattle.std.proofs.Common.{List, Some, map, ◌∙◌, ap}
use Rattle.vortex_filter.specs.Formula.{formula, is_match}
use Rattle.vortex_cells.specs.Cells.{cell_of}
use Rattle.vortex_value.specs.declared.scalars.Scalar.{Scalar}
use Rattle.record_search.specs.Searched.{row_under}
use Rattle.record_search.proofs.NamedLaws.{match_is}
use Rattle.record_search.proofs.RefusedLaws.{passed_has}
use Rattle.record_search.proofs.filtering.RowFilterMatcher.is_match_of_row.Goals as goal

pub returns-then-cells_of_row-clause-hit : goal.returns-then-cells_of_row-clause-hit
returns-then-cells_of_row-clause-hit c = λ has.
    let f = formula c.args.self.now.filter.now in
    c.matches.ensures.value ∙ ap (λ (xs : List Scalar). is_match f (map cell_of xs)) c.deref-then-cells_of_row.ensures.value
    ∙ match_is c.named_columns_decide.ensures f _ _ _ (Some (map cell_of c.cells_of_row.new.row.items)) (row_under c.args.self.now.schema.now c.args.line.now) c.deref.ensures.value c.in_ok-mark_named.ensures (c.cells_of_row.ensures c.if-cells_of_row.true has)

pub returns-then-cells_of_row-clause-passed : goal.returns-then-cells_of_row-clause-passed
returns-then-cells_of_row-clause-passed c = λ has. passed_has c.args.self.now.schema.now c.args.line.now has
