use Rattle.std.proofs.Common.{◌≡◌, ◌≢◌, ◌<◌}
use Rattle.logical_types.specs.Names.{decimal_name}
use Rattle.logical_types.specs.declared.logical.DecimalType.{DecimalType}
use Rattle.logical_types.proofs.names.decimal_of_precision.Given as goal

abbrev pub invariant-loop-scale : goal.invariant-loop-scale
invariant-loop-scale l = (d : DecimalType) → d.precision ≡ l.precision → d.scale < l.scale → l.word ≢ decimal_name d
