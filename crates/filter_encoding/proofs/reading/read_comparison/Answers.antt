-- The place, and then the literal.
use Rattle.vortex_cells.specs.Cells.{cell_of}
use Rattle.vortex_filter.specs.Formula.{formula}
use Rattle.filter_encoding.specs.Encoding.{node_bytes}
use Rattle.filter_encoding.specs.Steps.{IsNode}
use Rattle.vortex_filter.proofs.Steps.{formula-Compare}
use Rattle.filter_encoding.proofs.ReadSteps.{comparison_literal_stuck, comparison_place_stuck, comparison_read, passed_on}
use Rattle.filter_encoding.proofs.reading.read_comparison.Goals as goal

pub returns-in_err-column-clause-read : goal.returns-in_err-column-clause-read
returns-in_err-column-clause-read c = λ n. passed_on node_bytes (IsNode n) formula _ _ _ _ c.from_residual.ensures (λ bad. comparison_place_stuck n c.args.operator _ _ (c.in_err-column.ensures bad))

pub returns-in_err-literal-clause-read : goal.returns-in_err-literal-clause-read
returns-in_err-literal-clause-read c = λ n. passed_on node_bytes (IsNode n) formula _ _ _ _ c.from_residual-in_err-literal.ensures (λ bad. comparison_literal_stuck n c.args.operator c.in_ok-column.column _ _ _ c.in_ok-column.ensures (c.in_err-literal.ensures.read bad))

pub returns-clause-read : goal.returns-clause-read
returns-clause-read c = λ n. comparison_read n c.args.operator c.in_ok-column.column (cell_of c.in_ok-literal.literal) _ _ _ _ (formula-Compare c.in_ok-column.column c.args.operator c.in_ok-literal.literal) c.in_ok-column.ensures c.in_ok-literal.ensures.read
