use Rattle.std.proofs.Common.{◌≡◌, take}
use Rattle.vortex_pvalue.proofs.pvalues.array_of.Given as goal

abbrev pub invariant-loop-byte : goal.invariant-loop-byte
invariant-loop-byte l = l.array.items ≡ take l.byte-index l.bytes
