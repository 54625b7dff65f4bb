-- The integers so far.
use Rattle.std.proofs.Common.{map}
use Rattle.vortex_value.specs.Values.Content.{content}
use Rattle.column_keys.specs.Cells.{raws_in}
use Rattle.column_keys.proofs.NumberSteps.{AreIntegersBefore}
use Rattle.column_keys.proofs.writing.write_integers.Given as goal

abbrev pub invariant-loop-row : goal.invariant-loop-row
invariant-loop-row l = AreIntegersBefore l.fn.kind (map content (raws_in l.rows l.fn.which)) l.row l.values
