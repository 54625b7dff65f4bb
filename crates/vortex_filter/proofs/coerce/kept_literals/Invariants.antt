-- The literals so far that the type does not lack, and that they are valid if all are.
use Rattle.std.proofs.Common.{map, take}
use Rattle.vortex_dtype.specs.TypeOf.{type_of}
use Rattle.vortex_cells.specs.Cells.{cell_of}
use Rattle.vortex_filter.specs.FilterLiterals.{AreValid}
use Rattle.vortex_filter.proofs.CoerceSteps.{IsKept}
use Rattle.vortex_filter.proofs.coerce.kept_literals.Given as goal

abbrev pub invariant-loop-literal : goal.invariant-loop-literal
invariant-loop-literal l = IsKept (type_of l.dtype) (map cell_of l.kept.items) (take l.literal-index l.literals) × (AreValid l.literals → AreValid l.kept.items)
