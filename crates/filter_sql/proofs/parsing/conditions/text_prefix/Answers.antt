-- A string is a prefix, and a column of strings has it.
use Rattle.std.proofs.lemmas.Result.{err_from_is_err_and}
use Rattle.vortex_dtype.specs.TypeOf.{type_of}
use Rattle.vortex_filter.specs.Formula.{formula}
use Rattle.filter_sql.proofs.TestSteps.{string_fails, string_prefix}
use Rattle.filter_sql.proofs.parsing.conditions.text_prefix.Goals as goal

pub returns-in_err-literal-clause-read : goal.returns-in_err-literal-clause-read
returns-in_err-literal-clause-read c =
    let p = err_from_is_err_and c.from_residual.result c.from_residual.ensures.1 in
    rw (p.1, p.2) (string_fails _ (type_of c.args.column.dtype.now) c.args.text.now _ c.requires c.in_err-literal.ensures.read)

pub returns-clause-read : goal.returns-clause-read
returns-clause-read c = string_prefix formula c.prefix.result c.args.column.place (type_of c.args.column.dtype.now) c.args.text.now _ _ c.utf8.text c.in_ok-literal.ensures.read c.prefix.ensures.read
