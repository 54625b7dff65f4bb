-- The place, and then the literal.
use Rattle.vortex_cells.specs.Cells.{cell_of}
use Rattle.vortex_filter.specs.Formula.{formula}
use Rattle.filter_encoding.specs.Encoding.{node_bytes}
use Rattle.filter_encoding.specs.Steps.{IsNode}
use Rattle.vortex_filter.proofs.Steps.{formula-StartsWith}
use Rattle.filter_encoding.proofs.ReadSteps.{passed_on, prefix_literal_stuck, prefix_place_stuck, prefix_read}
use Rattle.filter_encoding.proofs.reading.read_prefix.Goals as goal

pub returns-in_err-column-clause-read : goal.returns-in_err-column-clause-read
returns-in_err-column-clause-read c = λ n. passed_on node_bytes (IsNode n) formula _ _ _ _ c.from_residual.ensures (λ bad. prefix_place_stuck n _ _ (c.in_err-column.ensures bad))

pub returns-in_err-prefix-clause-read : goal.returns-in_err-prefix-clause-read
returns-in_err-prefix-clause-read c = λ n. passed_on node_bytes (IsNode n) formula _ _ _ _ c.from_residual-in_err-prefix.ensures (λ bad. prefix_literal_stuck n c.in_ok-column.column _ _ _ c.in_ok-column.ensures (c.in_err-prefix.ensures.read bad))

pub returns-clause-read : goal.returns-clause-read
returns-clause-read c = λ n. prefix_read n c.in_ok-column.column (cell_of c.in_ok-prefix.prefix) _ _ _ _ (formula-StartsWith c.in_ok-column.column c.in_ok-prefix.prefix) c.in_ok-column.ensures c.in_ok-prefix.ensures.read
