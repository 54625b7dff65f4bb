-- The encoding over the types of the columns.
use Rattle.std.proofs.Common.{◌∙◌, ap, map}
use Rattle.vortex_dtype.specs.TypeOf.{type_of}
use Rattle.vortex_filter.specs.Formula.{formula}
use Rattle.vortex_c.specs.FilterSql.{prepared_of}
use Rattle.vortex_c.proofs.SqlSteps.{encoding-along, encoding-refused}
use Rattle.vortex_c.proofs.sql.encoding_of.Goals as goal

pub returns : goal.returns
returns c = encoding-along c.args.depth c.deref.result.now c.args.columns.now c.args.filter.now _ (ap (map type_of) c.deref.ensures.value ∙ c.in_ok-types.ensures.types) c.written.ensures

pub returns-in_err-types : goal.returns-in_err-types
returns-in_err-types c = encoding-refused c.args.depth (prepared_of c.args.columns.now (formula c.args.filter.now)) _ _ c.from_residual.ensures c.in_err-types.ensures.refused
