use Rattle.std.proofs.Common.{◌≢◌, ◌<◌}
use Rattle.logical_types.specs.Names.{decimal_name}
use Rattle.logical_types.specs.declared.logical.DecimalType.{DecimalType}
use Rattle.logical_types.proofs.names.decimal_named.Given as goal

abbrev pub invariant-loop-precision : goal.invariant-loop-precision
invariant-loop-precision l = (d : DecimalType) → d.precision < l.precision → l.word ≢ decimal_name d
