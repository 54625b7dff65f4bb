use Rattle.std.proofs.Common.{take}
use Rattle.std.specs.List.{All}
use Rattle.vortex_value.specs.Values.Scalars.{IsValid}
use Rattle.case_lines.proofs.valid.validate_all.Given as goal

abbrev pub invariant-loop-scalar : goal.invariant-loop-scalar
invariant-loop-scalar l = All IsValid (take l.scalar-index l.scalars)
