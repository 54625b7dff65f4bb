-- The place, the case, and then the pattern.
use Rattle.vortex_filter.specs.Formula.{formula}
use Rattle.filter_encoding.specs.Encoding.{node_bytes}
use Rattle.filter_encoding.specs.Steps.{IsNode}
use Rattle.vortex_filter.proofs.Steps.{formula-Like}
use Rattle.filter_encoding.proofs.ReadSteps.{like_case_stuck, like_pattern_stuck, like_place_stuck, like_read, passed_on}
use Rattle.filter_encoding.proofs.reading.read_like.Goals as goal

pub returns-in_err-column-clause-read : goal.returns-in_err-column-clause-read
returns-in_err-column-clause-read c = λ n. passed_on node_bytes (IsNode n) formula _ _ _ _ c.from_residual.ensures (λ bad. like_place_stuck n _ _ (c.in_err-column.ensures bad))

pub returns-in_err-case-clause-read : goal.returns-in_err-case-clause-read
returns-in_err-case-clause-read c = λ n. passed_on node_bytes (IsNode n) formula _ _ _ _ c.from_residual-in_err-case.ensures (λ bad. like_case_stuck n c.in_ok-column.column _ _ _ c.in_ok-column.ensures (c.in_err-case.ensures bad))

pub returns-in_err-pattern-clause-read : goal.returns-in_err-pattern-clause-read
returns-in_err-pattern-clause-read c = λ n.
    passed_on node_bytes (IsNode n) formula _ _ _ _ c.from_residual-in_err-pattern.ensures (λ bad. like_pattern_stuck n c.in_ok-column.column c.in_ok-case.case _ _ _ _ c.in_ok-column.ensures c.in_ok-case.ensures (c.in_err-pattern.ensures bad))

pub returns-clause-read : goal.returns-clause-read
returns-clause-read c = λ n.
    like_read n c.in_ok-column.column c.in_ok-case.case c.in_ok-pattern.pattern _ _ _ _ _ (formula-Like c.in_ok-column.column c.in_ok-pattern.pattern c.in_ok-case.case) c.in_ok-column.ensures c.in_ok-case.ensures c.in_ok-pattern.ensures
