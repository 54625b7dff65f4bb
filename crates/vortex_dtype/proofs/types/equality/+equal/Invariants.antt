use Rattle.std.proofs.Common.{◌≡◌, drop}
use Rattle.vortex_dtype.specs.TypeTree.{trim_all}
use Rattle.vortex_dtype.specs.TypeEquality.{trees_eq}
use Rattle.vortex_dtype.specs.TypeOf.{dtype_trees}
use Rattle.vortex_dtype.proofs.types.equality.+equal.Given as goal

-- the rest of both decides
abbrev pub invariant-all_equal-loop-i : goal.invariant-all_equal-loop-i
invariant-all_equal-loop-i l =
    trees_eq (trim_all l.exact (dtype_trees (drop l.i l.a))) (trim_all l.exact (dtype_trees (drop l.i l.b))) ≡ trees_eq (trim_all l.exact (dtype_trees l.a)) (trim_all l.exact (dtype_trees l.b))
