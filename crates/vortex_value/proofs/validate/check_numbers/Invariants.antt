use Rattle.std.proofs.Common.{◌≡◌, drop}
use Rattle.vortex_dtype.specs.TypeTree.{integer_type}
use Rattle.vortex_value.specs.Breaches.{element_breaches}
use Rattle.vortex_value.specs.Values.RawOf.{value_trees}
use Rattle.vortex_value.proofs.validate.check_numbers.Given as goal

abbrev pub invariant-loop-index : goal.invariant-loop-index
invariant-loop-index l = record {
  alloc : l.trace.alloc ≡ l.fn.trace.alloc;
  left : element_breaches (integer_type l.ptype l.nullability) 0 (value_trees l.items) ≡ element_breaches (integer_type l.ptype l.nullability) l.index (value_trees (drop l.index l.items));
}
