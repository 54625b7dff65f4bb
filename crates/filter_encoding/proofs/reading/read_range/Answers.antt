-- The place, and then both literals.
use Rattle.vortex_cells.specs.Cells.{cell_of}
use Rattle.vortex_filter.specs.Formula.{formula}
use Rattle.filter_encoding.specs.Encoding.{node_bytes}
use Rattle.filter_encoding.specs.Steps.{IsNode}
use Rattle.vortex_filter.proofs.Steps.{formula-Between}
use Rattle.filter_encoding.proofs.ReadSteps.{passed_on, range_lower_stuck, range_place_stuck, range_read, range_upper_stuck}
use Rattle.filter_encoding.proofs.reading.read_range.Goals as goal

pub returns-in_err-column-clause-read : goal.returns-in_err-column-clause-read
returns-in_err-column-clause-read c = λ n. passed_on node_bytes (IsNode n) formula _ _ _ _ c.from_residual.ensures (λ bad. range_place_stuck n _ _ (c.in_err-column.ensures bad))

pub returns-in_err-lower-clause-read : goal.returns-in_err-lower-clause-read
returns-in_err-lower-clause-read c = λ n. passed_on node_bytes (IsNode n) formula _ _ _ _ c.from_residual-in_err-lower.ensures (λ bad. range_lower_stuck n c.in_ok-column.column _ _ _ c.in_ok-column.ensures (c.in_err-lower.ensures.read bad))

pub returns-in_err-upper-clause-read : goal.returns-in_err-upper-clause-read
returns-in_err-upper-clause-read c = λ n. passed_on node_bytes (IsNode n) formula _ _ _ _ c.from_residual-in_err-upper.ensures (λ bad. range_upper_stuck n c.in_ok-column.column (cell_of c.in_ok-lower.lower) _ _ _ _ c.in_ok-column.ensures c.in_ok-lower.ensures.read (c.in_err-upper.ensures.read bad))

pub returns-clause-read : goal.returns-clause-read
returns-clause-read c = λ n. range_read n c.in_ok-column.column (cell_of c.in_ok-lower.lower) (cell_of c.in_ok-upper.upper) _ _ _ _ _ (formula-Between c.in_ok-column.column c.in_ok-lower.lower c.in_ok-upper.upper) c.in_ok-column.ensures c.in_ok-lower.ensures.read c.in_ok-upper.ensures.read
