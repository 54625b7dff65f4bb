use Rattle.std.proofs.Common.{drop, codes, map}
use Rattle.vortex_value.specs.Texts.{hexadecimal}
use Rattle.vortex_value.proofs.Writes.{Joins}
use Rattle.vortex_value.proofs.display.leaves.write_spaced.Given as goal

abbrev pub invariant-loop-index : goal.invariant-loop-index
invariant-loop-index g l =
    Joins g.W.Write.write_str_gives (codes " ") l.fn.f l.index (map hexadecimal (drop l.index l.bytes)) (map hexadecimal l.bytes) l.f
