-- Each byte so far is one of a character.
use Rattle.vortex_row.specs.Strings.{AreCharacters}
use Rattle.vortex_row.proofs.decode.strings.ascii_end.Given as goal

abbrev pub invariant-loop-place : goal.invariant-loop-place
invariant-loop-place l = AreCharacters l.bytes l.place
