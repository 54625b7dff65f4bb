use Rattle.std.proofs.Common.{◌≡◌, drop}
use Rattle.vortex_dtype.specs.TypeTree.{integer_type}
use Rattle.vortex_dtype.specs.declared.nullability.Nullability.{Nullability}
use Rattle.vortex_dtype.specs.declared.ptype.PType.{PType}
use Rattle.vortex_value.specs.Values.Content.{contents}
use Rattle.vortex_value.specs.Values.RawOf.{value_trees}
use Rattle.vortex_value.specs.Zero.{each_zero}
use Rattle.vortex_value.proofs.zero.are_numbers_zero.Given as goal

abbrev pub invariant-loop-item : goal.invariant-loop-item
invariant-loop-item l = (k : PType) (n : Nullability)
    → each_zero (integer_type k n) (contents (value_trees (drop l.item-index l.items))) ≡ each_zero (integer_type k n) (contents (value_trees l.items))
