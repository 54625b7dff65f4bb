-- Each step of the code is a step of reading.
use Rattle.std.proofs.Common.{map}
use Rattle.std.proofs.lemmas.Result.{err_from_is_err_and}
use Rattle.vortex_dtype.specs.TypeOf.{type_of}
use Rattle.vortex_cells.specs.Cells.{cell_of}
use Rattle.filter_sql.specs.Tokens.{trees}
use Rattle.filter_sql.proofs.TestSteps.{goes_on, wrong_on, literal_fails, end_fails, ends, is_smaller}
use Rattle.vortex_filter.proofs.LiteralSteps.{valid_at, valid_with}
use Rattle.filter_sql.proofs.parsing.conditions.more_cells.Goals as goal

pub returns-in_err-literal-clause-read : goal.returns-in_err-literal-clause-read
returns-in_err-literal-clause-read c =
    let p = err_from_is_err_and c.from_residual.result c.from_residual.ensures.1 in
    rw (p.1, p.2) (literal_fails (type_of c.args.dtype.now) (map cell_of c.loop-after.literals.items) (trees c.loop-after.rest.now) _ c.loop-after.invariant.0 _ c.loop-after.invariant.1 _ _ c.in-Some.ensures c.in_err-literal.ensures.read)

pub loop-after-smaller : goal.loop-after-smaller
loop-after-smaller c = is_smaller (type_of c.args.dtype.now) c.loop-after.rest.now c.in_ok-literal.behind.now _ _ c.in-Some.ensures c.in_ok-literal.ensures.read

pub loop-after-preserved : goal.loop-after-preserved
loop-after-preserved c =
    let front = map cell_of c.loop-after.literals.items in (
      goes_on (type_of c.args.dtype.now) front (trees c.loop-after.rest.now) _ c.loop-after.invariant.0 _ c.loop-after.invariant.1 _ _ _ _ c.in-Some.ensures c.in_ok-literal.ensures.read c.in_ok-literals.ensures.made,
      wrong_on (type_of c.args.dtype.now) front (trees c.loop-after.rest.now) _ c.loop-after.invariant.0 _ c.loop-after.invariant.1 _ _ _ c.in-Some.ensures c.in_ok-literal.ensures.read,
      λ v. valid_with _ _ _ c.in_ok-literals.ensures.literals (c.loop-after.invariant.2 v) (valid_at c.in_ok-literal.literal c.in_ok-literal.ensures.valid),
    )

pub returns-in_err-rest-clause-read : goal.returns-in_err-rest-clause-read
returns-in_err-rest-clause-read c =
    let p = err_from_is_err_and c.from_residual-in_err-rest.result c.from_residual-in_err-rest.ensures.1 in
    rw (p.1, p.2) (end_fails (type_of c.args.dtype.now) (map cell_of c.loop-after.literals.items) (trees c.loop-after.rest.now) _ c.loop-after.invariant.0 _ c.loop-after.invariant.1 _ c.in_default.ensures c.in_err-rest.ensures)

pub returns-clause-read : goal.returns-clause-read
returns-clause-read c = ends (type_of c.args.dtype.now) (map cell_of c.loop-after.literals.items) (trees c.loop-after.rest.now) _ c.loop-after.invariant.0 _ c.loop-after.invariant.1 _ c.in_ok-rest.ensures
