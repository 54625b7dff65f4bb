-- The copies so far are the scalars, each with its type and its raw value.
use Rattle.std.proofs.Common.{◌≡◌, map, take}
use Rattle.vortex_cells.specs.Cells.{cell_of}
use Rattle.vortex_filter.specs.FilterLiterals.{exactly_of}
use Rattle.vortex_filter.proofs.copies.copy_scalars.Given as goal

abbrev pub invariant-loop-scalar : goal.invariant-loop-scalar
invariant-loop-scalar l = (map cell_of l.copies.items ≡ map cell_of (take l.scalar-index l.scalars)) × (map exactly_of l.copies.items ≡ map exactly_of (take l.scalar-index l.scalars))
