-- What is merged so far, and what is left of both.
use Rattle.std.proofs.Common.{◌+◌, length}
use Rattle.std.specs.Ordering.{is_lt}
use Rattle.law_callers.proofs.MergeSteps.{Merges}
use Rattle.law_callers.specs.Keyed.{keyed_cmp}
use Rattle.law_callers.proofs.key_laws.merge_by_keys.Given as goal

abbrev pub invariant-loop-next : goal.invariant-loop-next
invariant-loop-next l = Merges (λ x y. is_lt (keyed_cmp x y)) l.fn.left.items l.fn.right.items l.merged.items l.left.items l.right.items

abbrev pub decreases-loop-next : goal.decreases-loop-next
decreases-loop-next l = length l.left.items + length l.right.items
