-- The rows so far have values.
use Rattle.std.proofs.Common.{map}
use Rattle.vortex_value.specs.Values.Content.{content}
use Rattle.column_keys.specs.Cells.{raws_in}
use Rattle.column_keys.specs.Read.{AreStored}
use Rattle.column_keys.proofs.stored.first_no_value.Given as goal

abbrev pub invariant-loop-row : goal.invariant-loop-row
invariant-loop-row l = AreStored l.fn.kind (map content (raws_in l.rows l.fn.which)) l.row
