use Rattle.std.proofs.Common.{drop}
use Rattle.std.specs.Fmt.{IsPlainFormatter}
use Rattle.std.specs.List.{flat_map}
use Rattle.vortex_value.specs.Texts.{two_digits}
use Rattle.vortex_value.proofs.Writes.{HasLeft}
use Rattle.filter_sql.proofs.print.write_digits.Given as goal

abbrev pub invariant-loop-byte : goal.invariant-loop-byte
invariant-loop-byte g l =
    IsPlainFormatter l.fn.f → HasLeft g.W.Write.write_str_gives l.fn.f (flat_map two_digits (drop l.byte-index l.bytes)) (flat_map two_digits l.bytes) l.f
