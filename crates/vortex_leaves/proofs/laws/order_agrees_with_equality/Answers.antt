use Rattle.vortex_leaves.specs.ViewWords.{bool_order, bytes_order, number_order, text_order}
use Rattle.vortex_leaves.proofs.laws.order_agrees_with_equality.Goals as goal

pub returns-clause-truths : goal.returns-clause-truths
returns-clause-truths c = λ x y. let m = bool_order.partial.matches_eq x y in (m.1, m.0)

pub returns-clause-strings : goal.returns-clause-strings
returns-clause-strings c = λ x y. let m = text_order.partial.matches_eq x y in (m.1, m.0)

pub returns-clause-bytes : goal.returns-clause-bytes
returns-clause-bytes c = λ x y. let m = bytes_order.partial.matches_eq x y in (m.1, m.0)

pub returns-clause-integers : goal.returns-clause-integers
returns-clause-integers c = λ x y. let m = number_order.matches_eq x y in (m.1, m.0)
