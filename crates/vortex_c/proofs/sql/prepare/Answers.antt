-- The encoding of the filter, or why there is none.
use Rattle.std.proofs.Common.{arith}
use Rattle.vortex_filter.specs.Formula.{formula}
use Rattle.vortex_c.proofs.SqlSteps.{encoding-fault, prepared-from, text-refused, unfit-refused}
use Rattle.vortex_c.proofs.sql.prepare.Goals as goal

pub returns-clause-prepared : goal.returns-clause-prepared
returns-clause-prepared c =
    prepared-from c.args.depth c.encoding_depth.result c.args.words.now c.in_ok-text.text.now c.args.columns.now (formula c.in_ok-filter.filter) c.encoding_depth.ensures c.in_ok-text.ensures.named c.in_ok-text.ensures.text c.in_ok-filter.ensures.read _ c.encoding_of.ensures

pub returns-clause-refused : goal.returns-clause-refused
returns-clause-refused c =
    encoding-fault c.args.depth c.encoding_depth.result c.args.words.now c.in_ok-text.text.now c.args.columns.now (formula c.in_ok-filter.filter) c.encoding_depth.ensures c.in_ok-text.ensures.named c.in_ok-text.ensures.text c.in_ok-filter.ensures.read
    c.shapes_say_types.ensures.says c.shapes_say_words.ensures (omega (arith, c.byte_count.ensures, c.byte_count.type_inv)) (omega (arith, c.column_count.ensures, c.column_count.type_inv)) _ c.encoding_of.ensures

pub returns-in_err-text-clause-refused : goal.returns-in_err-text-clause-refused
returns-in_err-text-clause-refused c = unfit-refused c.args.depth c.args.words.now c.args.columns.now _ _ c.from_residual.ensures c.in_err-text.ensures.refused

pub returns-in_err-filter-clause-refused : goal.returns-in_err-filter-clause-refused
returns-in_err-filter-clause-refused c =
    text-refused c.args.depth c.args.words.now c.in_ok-text.text.now c.args.columns.now _ _ c.from_residual-in_err-filter.ensures c.in_ok-text.ensures.named c.in_ok-text.ensures.text c.in_err-filter.ensures.refused
