-- The numbers so far.
use Rattle.std.proofs.Common.{map}
use Rattle.vortex_value.specs.Values.Content.{content}
use Rattle.column_keys.specs.Cells.{raws_in}
use Rattle.column_keys.proofs.StoredSteps.{AreNumbersBefore}
use Rattle.column_keys.proofs.writing.write_values.Given as goal

abbrev pub invariant-loop-row : goal.invariant-loop-row
invariant-loop-row l = AreNumbersBefore l.fn.format (map content (raws_in l.rows l.fn.which)) l.row l.values
