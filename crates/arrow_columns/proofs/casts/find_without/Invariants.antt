use Rattle.std.proofs.Common.{ℕ, ◌<◌, ◌≤◌}
use Rattle.std.specs.Option.{IfSome}
use Rattle.arrow_columns.specs.Integers.{IsOfKind, cell_of_item}
use Rattle.arrow_columns.proofs.casts.find_without.Given as goal

abbrev pub invariant-loop-i : goal.invariant-loop-i
invariant-loop-i g l = (k : ℕ) → k < l.i → l.span.from ≤ k → IfSome (cell_of_item g.T.Item.kind l.span.validity.now l.span.items.now k) (IsOfKind g.U.Integer.kind)
