-- A value of a logical type is of its type.
use Rattle.vortex_filter.proofs.logical_values.logical_value.Goals as goal

pub returns-in_default-clause-none : goal.returns-in_default-clause-none
returns-in_default-clause-none c = λ l z is. c.in_default.ensures.none l is.typed
