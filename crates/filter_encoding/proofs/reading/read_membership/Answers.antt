-- The place, and then the literals.
use Rattle.std.proofs.Common.{map}
use Rattle.vortex_cells.specs.Cells.{cell_of}
use Rattle.vortex_filter.specs.Formula.{formula}
use Rattle.filter_encoding.specs.Encoding.{node_bytes}
use Rattle.filter_encoding.specs.Steps.{IsNode}
use Rattle.vortex_filter.proofs.Steps.{formula-In}
use Rattle.filter_encoding.proofs.ReadSteps.{membership_literals_stuck, membership_place_stuck, membership_read, passed_on}
use Rattle.filter_encoding.proofs.reading.read_membership.Goals as goal

pub returns-in_err-column-clause-read : goal.returns-in_err-column-clause-read
returns-in_err-column-clause-read c = λ n. passed_on node_bytes (IsNode n) formula _ _ _ _ c.from_residual.ensures (λ bad. membership_place_stuck n _ _ (c.in_err-column.ensures bad))

pub returns-in_err-literals-clause-read : goal.returns-in_err-literals-clause-read
returns-in_err-literals-clause-read c = λ n. passed_on node_bytes (IsNode n) formula _ _ _ _ c.from_residual-in_err-literals.ensures (λ bad. membership_literals_stuck n c.in_ok-column.column _ _ _ c.in_ok-column.ensures (c.in_err-literals.ensures.read bad))

pub returns-clause-read : goal.returns-clause-read
returns-clause-read c = λ n. membership_read n c.in_ok-column.column (map cell_of c.in_ok-literals.literals.items) _ _ _ _ (formula-In c.in_ok-column.column c.in_ok-literals.literals) c.in_ok-column.ensures c.in_ok-literals.ensures.read
