-- The place.
use Rattle.vortex_filter.specs.Formula.{formula}
use Rattle.filter_encoding.specs.Encoding.{node_bytes}
use Rattle.filter_encoding.specs.Steps.{IsNode}
use Rattle.vortex_filter.proofs.Steps.{formula-IsNull}
use Rattle.filter_encoding.proofs.ReadSteps.{null_test_read, null_test_stuck, passed_on}
use Rattle.filter_encoding.proofs.reading.read_null_test.Goals as goal

pub returns-in_err-column-clause-read : goal.returns-in_err-column-clause-read
returns-in_err-column-clause-read c = λ n. passed_on node_bytes (IsNode n) formula _ _ _ _ c.from_residual.ensures (λ bad. null_test_stuck n _ _ (c.in_err-column.ensures bad))

pub returns-clause-read : goal.returns-clause-read
returns-clause-read c = λ n. null_test_read n c.in_ok-column.column _ _ _ (formula-IsNull c.in_ok-column.column) c.in_ok-column.ensures
