use Rattle.std.proofs.Common.{take}
use Rattle.std.specs.List.{All}
use Rattle.vortex_value.specs.Makers.{IsValidEntry}
use Rattle.case_lines.proofs.valid.validate_entries.Given as goal

abbrev pub invariant-loop-entry : goal.invariant-loop-entry
invariant-loop-entry l = All IsValidEntry (take l.entry-index l.entries)
