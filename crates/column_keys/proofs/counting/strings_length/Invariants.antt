-- The bytes of the rows so far.
use Rattle.std.proofs.Common.{◌≡◌, map, take}
use Rattle.vortex_value.specs.Size.{capped}
use Rattle.vortex_value.specs.Values.Content.{content}
use Rattle.column_keys.specs.Cells.{raws_in}
use Rattle.column_keys.specs.Layout.{bytes_length}
use Rattle.column_keys.proofs.counting.strings_length.Given as goal

abbrev pub invariant-loop-row : goal.invariant-loop-row
invariant-loop-row l = l.total ≡ capped (bytes_length (take l.row (map content (raws_in l.rows l.which))))
