-- The first literal, and those behind it.
use Rattle.std.proofs.lemmas.Result.{err_from_is_err_and}
use Rattle.vortex_dtype.specs.TypeOf.{type_of}
use Rattle.filter_sql.specs.Tokens.{trees}
use Rattle.filter_sql.proofs.TestSteps.{cells_left_fail, cells_begin, cells_wrong_behind}
use Rattle.filter_sql.proofs.parsing.conditions.cells.Goals as goal

pub returns-in_err-literal-clause-read : goal.returns-in_err-literal-clause-read
returns-in_err-literal-clause-read c =
    let p = err_from_is_err_and c.from_residual.result c.from_residual.ensures.1 in
    rw (p.1, p.2) (cells_left_fail _ (type_of c.args.dtype.now) (trees c.args.rest.now) c.in_err-literal.ensures.read)

pub returns-clause-read : goal.returns-clause-read
returns-clause-read c =
    let begun = cells_begin (type_of c.args.dtype.now) (trees c.args.rest.now) _ (trees c.in_ok-literal.rest.now) c.in_ok-literal.ensures.read in
    let made = rw c.new.ensures.items at c.in_ok-literals.ensures.made in
    let wrong = cells_wrong_behind (type_of c.args.dtype.now) (trees c.args.rest.now) _ (trees c.in_ok-literal.rest.now) c.in_ok-literal.ensures.read in
    rw (begun, ← made, wrong) c.more_cells.ensures.read
