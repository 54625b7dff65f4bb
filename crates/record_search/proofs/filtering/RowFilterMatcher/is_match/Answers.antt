-- The truth on the cells that are wanted is that on the row.
use Rattle.std.proofs.Common.{List, None, Some, map, ◌∙◌, ap}
use Rattle.vortex_filter.specs.Formula.{formula, is_match}
use Rattle.vortex_cells.specs.Cells.{cell_of}
use Rattle.vortex_value.specs.declared.scalars.Scalar.{Scalar}
use Rattle.record_search.specs.Searched.{row_under}
use Rattle.record_search.proofs.NamedLaws.{match_is}
use Rattle.record_search.proofs.filtering.RowFilterMatcher.is_match.Goals as goal

pub returns-then-has_row-clause-hit : goal.returns-then-has_row-clause-hit
returns-then-has_row-clause-hit c =
    let f = formula c.args.self.now.filter.now in
    let agrees = rw c.if-has_row.true at c.in_ok-has_row.ensures.row in
    c.matches.ensures.value ∙ ap (λ (xs : List Scalar). is_match f (map cell_of xs)) c.deref-then-has_row.ensures.value
    ∙ match_is c.named_columns_decide.ensures f _ _ _ (Some (map cell_of c.cells_of_record.new.row.items)) (row_under c.args.self.now.schema.now c.args.line.now) c.deref.ensures.value c.in_ok-mark_named.ensures agrees

pub returns-else-has_row-clause-hit : goal.returns-else-has_row-clause-hit
returns-else-has_row-clause-hit c =
    let agrees = rw c.if-has_row.false at c.in_ok-has_row.ensures.row in
    match_is c.named_columns_decide.ensures (formula c.args.self.now.filter.now) _ _ _ None (row_under c.args.self.now.schema.now c.args.line.now) c.deref.ensures.value c.in_ok-mark_named.ensures agrees
