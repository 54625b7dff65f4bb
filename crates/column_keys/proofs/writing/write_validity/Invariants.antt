-- The bits so far.
use Rattle.std.proofs.Common.{map}
use Rattle.vortex_value.specs.Values.Content.{content}
use Rattle.column_keys.specs.Cells.{raws_in}
use Rattle.column_keys.specs.Layout.{is_present}
use Rattle.column_keys.proofs.BitSteps.{AreBitsBefore}
use Rattle.column_keys.proofs.writing.write_validity.Given as goal

abbrev pub invariant-loop-row : goal.invariant-loop-row
invariant-loop-row l = AreBitsBefore is_present (map content (raws_in l.rows l.fn.which)) l.row l.validity
