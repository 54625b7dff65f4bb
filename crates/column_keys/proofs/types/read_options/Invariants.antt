-- The options so far.
use Rattle.std.proofs.Common.{◌≡◌, map, take}
use Rattle.column_keys.specs.Tables.{options_in}
use Rattle.column_keys.proofs.types.read_options.Given as goal

abbrev pub invariant-loop-column : goal.invariant-loop-column
invariant-loop-column l = l.read.items ≡ map options_in (take l.column l.options)
