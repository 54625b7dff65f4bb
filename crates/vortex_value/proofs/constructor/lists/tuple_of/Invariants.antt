use Rattle.std.proofs.Common.{◌≡◌, map}
use Rattle.vortex_value.proofs.constructor.lists.tuple_of.Given as goal

abbrev pub invariant-loop-child : goal.invariant-loop-child
invariant-loop-child l = l.values.items ≡ map (λ x. x.value) l.yielded
