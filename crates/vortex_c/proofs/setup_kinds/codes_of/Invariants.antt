-- The codes so far.
use Rattle.std.proofs.Common.{◌≡◌, map, take}
use Rattle.column_items.specs.Codes.{kind_of_code}
use Rattle.vortex_c.specs.SearchColumns.{kind_of_named}
use Rattle.vortex_c.proofs.setup_kinds.codes_of.Given as goal

abbrev pub invariant-loop-named : goal.invariant-loop-named
invariant-loop-named l = map kind_of_code l.codes.items ≡ map kind_of_named (take l.named-index l.columns)
