-- The bytes so far are the beginning of a text, after which next may come.
use Rattle.std.proofs.Common.{IsUtf8, take}
use Rattle.vortex_row.specs.Keys.{inverted}
use Rattle.vortex_row.specs.Reading.{ContinueWith}
use Rattle.vortex_row.specs.Strings.{ComesNext, IsEscaped, IsProper}
use Rattle.vortex_row.proofs.decode.texts.first_bad.Given as goal

abbrev pub invariant-loop-place : goal.invariant-loop-place
invariant-loop-place l = IsProper l.next × ContinueWith (take l.place (inverted l.invert l.bytes)) (IsEscaped IsUtf8) (ComesNext l.next)
