-- The cell of a field.
use Rattle.record_rows.proofs.taking.take_field.Goals as goal

pub returns-then-is_taken-clause-taken : goal.returns-then-is_taken-clause-taken
returns-then-is_taken-clause-taken c = rw c.if-is_taken.true at c.in_ok-is_taken.ensures
