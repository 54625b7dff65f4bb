-- Each step of the code is a step of reading.
use Rattle.std.proofs.Common.{ap, ◌∙◌}
use Rattle.std.proofs.lemmas.Result.{err_from_is_err_and}
use Rattle.vortex_filter.specs.Formula.{formula}
use Rattle.filter_sql.specs.Tokens.{trees}
use Rattle.filter_sql.specs.ColumnNames.{column_trees}
use Rattle.filter_sql.specs.Mistakes.{predicate_mistake}
use Rattle.filter_sql.specs.Reading.{predicate_at}
use Rattle.filter_sql.proofs.ReadSteps.{or_left_fails, or_alone, or_too_deep, or_right_fails, or_joined, and_left_fails, and_alone, and_too_deep, and_right_fails, and_joined, not_too_deep, not_fails, negated_is, group_too_deep, group_fails, not_closed, group_is, predicate_is}
use Rattle.filter_sql.proofs.parsing.filters.+filters.Goals as goal

pub disjunction-returns-in_err-left-clause-read : goal.disjunction-returns-in_err-left-clause-read
disjunction-returns-in_err-left-clause-read t c =
    let p = err_from_is_err_and c.from_residual.result c.from_residual.ensures.1 in
    rw (p.1, p.2) (or_left_fails (predicate_at (column_trees c.args.columns.now)) (predicate_mistake (column_trees c.args.columns.now)) c.args.depth (trees c.args.rest.now) _ c.in_err-left.ensures.read)

pub disjunction-returns-in_default-clause-read : goal.disjunction-returns-in_default-clause-read
disjunction-returns-in_default-clause-read t c = or_alone (predicate_at (column_trees c.args.columns.now)) (predicate_mistake (column_trees c.args.columns.now)) c.args.depth (trees c.args.rest.now) _ _ c.in_ok-left.ensures.read c.in_default.ensures

pub disjunction-returns-in_err-depth-clause-read : goal.disjunction-returns-in_err-depth-clause-read
disjunction-returns-in_err-depth-clause-read t c =
    let p = err_from_is_err_and c.from_residual-in_err-depth.result c.from_residual-in_err-depth.ensures.1 in
    rw (p.1, p.2) (or_too_deep (predicate_at (column_trees c.args.columns.now)) (predicate_mistake (column_trees c.args.columns.now)) c.args.depth (trees c.args.rest.now) _ _ _ _ c.in_ok-left.ensures.read c.in-Some.ensures c.in_err-depth.ensures)

pub disjunction-returns-in_err-right-clause-read : goal.disjunction-returns-in_err-right-clause-read
disjunction-returns-in_err-right-clause-read t c =
    let p = err_from_is_err_and c.from_residual-in_err-right.result c.from_residual-in_err-right.ensures.1 in
    rw (p.1, p.2) (or_right_fails (predicate_at (column_trees c.args.columns.now)) (predicate_mistake (column_trees c.args.columns.now)) c.args.depth (trees c.args.rest.now) _ _ _ _ _ c.in_ok-left.ensures.read c.in-Some.ensures c.in_ok-depth.ensures c.in_err-right.ensures.read)

pub disjunction-returns-clause-read : goal.disjunction-returns-clause-read
disjunction-returns-clause-read t c = or_joined (predicate_at (column_trees c.args.columns.now)) (predicate_mistake (column_trees c.args.columns.now)) c.args.depth (trees c.args.rest.now) _ _ _ _ _ _ _ c.in_ok-left.ensures.read c.in-Some.ensures c.in_ok-depth.ensures c.in_ok-right.ensures.read (ap formula c.in_ok-boxed.ensures ∙ c.either.ensures.made)

pub conjunction-returns-in_err-left-clause-read : goal.conjunction-returns-in_err-left-clause-read
conjunction-returns-in_err-left-clause-read t c =
    let p = err_from_is_err_and c.from_residual.result c.from_residual.ensures.1 in
    rw (p.1, p.2) (and_left_fails (predicate_at (column_trees c.args.columns.now)) (predicate_mistake (column_trees c.args.columns.now)) c.args.depth (trees c.args.rest.now) _ c.in_err-left.ensures.read)

pub conjunction-returns-in_default-clause-read : goal.conjunction-returns-in_default-clause-read
conjunction-returns-in_default-clause-read t c = and_alone (predicate_at (column_trees c.args.columns.now)) (predicate_mistake (column_trees c.args.columns.now)) c.args.depth (trees c.args.rest.now) _ _ c.in_ok-left.ensures.read c.in_default.ensures

pub conjunction-returns-in_err-depth-clause-read : goal.conjunction-returns-in_err-depth-clause-read
conjunction-returns-in_err-depth-clause-read t c =
    let p = err_from_is_err_and c.from_residual-in_err-depth.result c.from_residual-in_err-depth.ensures.1 in
    rw (p.1, p.2) (and_too_deep (predicate_at (column_trees c.args.columns.now)) (predicate_mistake (column_trees c.args.columns.now)) c.args.depth (trees c.args.rest.now) _ _ _ _ c.in_ok-left.ensures.read c.in-Some.ensures c.in_err-depth.ensures)

pub conjunction-returns-in_err-right-clause-read : goal.conjunction-returns-in_err-right-clause-read
conjunction-returns-in_err-right-clause-read t c =
    let p = err_from_is_err_and c.from_residual-in_err-right.result c.from_residual-in_err-right.ensures.1 in
    rw (p.1, p.2) (and_right_fails (predicate_at (column_trees c.args.columns.now)) (predicate_mistake (column_trees c.args.columns.now)) c.args.depth (trees c.args.rest.now) _ _ _ _ _ c.in_ok-left.ensures.read c.in-Some.ensures c.in_ok-depth.ensures c.in_err-right.ensures.read)

pub conjunction-returns-clause-read : goal.conjunction-returns-clause-read
conjunction-returns-clause-read t c = and_joined (predicate_at (column_trees c.args.columns.now)) (predicate_mistake (column_trees c.args.columns.now)) c.args.depth (trees c.args.rest.now) _ _ _ _ _ _ _ c.in_ok-left.ensures.read c.in-Some.ensures c.in_ok-depth.ensures c.in_ok-right.ensures.read (ap formula c.in_ok-boxed.ensures ∙ c.both.ensures.made)

pub operand-returns-in_err-depth-clause-read : goal.operand-returns-in_err-depth-clause-read
operand-returns-in_err-depth-clause-read t c =
    let p = err_from_is_err_and c.from_residual.result c.from_residual.ensures.1 in
    rw (p.1, p.2) (not_too_deep (predicate_at (column_trees c.args.columns.now)) (predicate_mistake (column_trees c.args.columns.now)) c.args.depth (trees c.args.rest.now) _ _ c.in-Some.ensures c.in_err-depth.ensures)

pub operand-returns-in_err-inner-clause-read : goal.operand-returns-in_err-inner-clause-read
operand-returns-in_err-inner-clause-read t c =
    let p = err_from_is_err_and c.from_residual-in_err-inner.result c.from_residual-in_err-inner.ensures.1 in
    rw (p.1, p.2) (not_fails (predicate_at (column_trees c.args.columns.now)) (predicate_mistake (column_trees c.args.columns.now)) c.args.depth (trees c.args.rest.now) _ _ _ c.in-Some.ensures c.in_ok-depth.ensures c.in_err-inner.ensures.read)

pub operand-returns-in-Some-clause-read : goal.operand-returns-in-Some-clause-read
operand-returns-in-Some-clause-read t c = negated_is (predicate_at (column_trees c.args.columns.now)) (predicate_mistake (column_trees c.args.columns.now)) c.args.depth (trees c.args.rest.now) _ _ _ _ _ c.in-Some.ensures c.in_ok-depth.ensures c.in_ok-inner.ensures.read (ap formula c.in_ok-boxed.ensures ∙ c.negation.ensures.made)

pub operand-returns-in_err-depth-2-clause-read : goal.operand-returns-in_err-depth-2-clause-read
operand-returns-in_err-depth-2-clause-read t c =
    let p = err_from_is_err_and c.from_residual-in_err-depth-2.result c.from_residual-in_err-depth-2.ensures.1 in
    rw (p.1, p.2) (group_too_deep (predicate_at (column_trees c.args.columns.now)) (predicate_mistake (column_trees c.args.columns.now)) c.args.depth (trees c.args.rest.now) _ _ c.in_default.ensures c.in-Some-after_opening.ensures c.in_err-depth-2.ensures)

pub operand-returns-in_err-inner-2-clause-read : goal.operand-returns-in_err-inner-2-clause-read
operand-returns-in_err-inner-2-clause-read t c =
    let p = err_from_is_err_and c.from_residual-in_err-inner-2.result c.from_residual-in_err-inner-2.ensures.1 in
    rw (p.1, p.2) (group_fails (predicate_at (column_trees c.args.columns.now)) (predicate_mistake (column_trees c.args.columns.now)) c.args.depth (trees c.args.rest.now) _ _ _ c.in_default.ensures c.in-Some-after_opening.ensures c.in_ok-depth-2.ensures c.in_err-inner-2.ensures.read)

pub operand-returns-in_default-after_closing-clause-read : goal.operand-returns-in_default-after_closing-clause-read
operand-returns-in_default-after_closing-clause-read t c = not_closed (predicate_at (column_trees c.args.columns.now)) (predicate_mistake (column_trees c.args.columns.now)) c.args.depth (trees c.args.rest.now) _ _ _ _ _ c.in_default.ensures c.in-Some-after_opening.ensures c.in_ok-depth-2.ensures c.in_ok-inner-2.ensures.read c.in_default-after_closing.ensures c.expected.ensures

pub operand-returns-in-Some-after_opening-clause-read : goal.operand-returns-in-Some-after_opening-clause-read
operand-returns-in-Some-after_opening-clause-read t c = group_is (predicate_at (column_trees c.args.columns.now)) (predicate_mistake (column_trees c.args.columns.now)) c.args.depth (trees c.args.rest.now) _ _ _ _ _ c.in_default.ensures c.in-Some-after_opening.ensures c.in_ok-depth-2.ensures c.in_ok-inner-2.ensures.read c.in-Some-after_closing.ensures

pub operand-returns-clause-read : goal.operand-returns-clause-read
operand-returns-clause-read t c =
    let pair = predicate_is (predicate_at (column_trees c.args.columns.now)) (predicate_mistake (column_trees c.args.columns.now)) c.args.depth (trees c.args.rest.now) c.in_default.ensures c.in_default-after_opening.ensures in
    rw (pair.0, pair.1) c.boxed_predicate.ensures.read
