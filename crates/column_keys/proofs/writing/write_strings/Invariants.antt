-- The strings so far.
use Rattle.std.proofs.Common.{◌≡◌, length, map, take}
use Rattle.vortex_value.specs.Values.Content.{content}
use Rattle.column_keys.specs.Cells.{raws_in}
use Rattle.column_keys.proofs.StringSteps.{AreStringsBefore}
use Rattle.column_keys.proofs.writing.write_strings.Given as goal

abbrev pub invariant-loop-row : goal.invariant-loop-row
invariant-loop-row l = AreStringsBefore (map content (raws_in l.rows l.which)) l.row (take l.start l.values) l.offsets × (l.start ≡ length (take l.start l.values))
