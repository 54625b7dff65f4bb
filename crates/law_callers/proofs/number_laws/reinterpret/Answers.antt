-- Any number with the property is the one that the call gives.
use Rattle.std.proofs.Common.{sym, ◌∙◌}
use Rattle.law_callers.proofs.number_laws.reinterpret.Goals as goal

pub returns-clause-only : goal.returns-clause-only
returns-clause-only c = λ r is. c.one_wrapped_number.ensures.unique _ _ r is ∙ sym c.reinterpret_cast.ensures.wrapped
