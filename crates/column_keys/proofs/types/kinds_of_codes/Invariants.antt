-- The kinds so far.
use Rattle.std.proofs.Common.{◌≡◌, map, take}
use Rattle.column_keys.proofs.types.kinds_of_codes.Given as goal

abbrev pub invariant-loop-code : goal.invariant-loop-code
invariant-loop-code g l = l.kinds.items ≡ map g.C.ToKind.kind_of (take l.code-index l.codes)
