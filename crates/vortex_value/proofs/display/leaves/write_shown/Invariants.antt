use Rattle.std.specs.Fmt.{HasWritten, IsPlainFormatter}
use Rattle.std.specs.Str.{encode_utf8_all}
use Rattle.vortex_value.proofs.display.leaves.write_shown.Given as goal

abbrev pub invariant-loop-character : goal.invariant-loop-character
invariant-loop-character g l = IsPlainFormatter l.fn.f → HasWritten g.W.Write.write_str_gives l.fn.f (encode_utf8_all l.yielded) l.f
