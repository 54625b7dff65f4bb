-- Without a byte no string goes on.
use Rattle.vortex_row.proofs.StringSteps.{byte-missing}
use Rattle.vortex_row.proofs.decode.strings.next_byte.Goals as goal

pub returns-in-None : goal.returns-in-None
returns-in-None c = byte-missing _ c.in-None.ensures
