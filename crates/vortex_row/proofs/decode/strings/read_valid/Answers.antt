-- What was read is no text.
use Rattle.vortex_row.proofs.StringSteps.{no-text}
use Rattle.vortex_row.proofs.decode.strings.read_valid.Goals as goal

pub returns : goal.returns
returns c = λ bad text. no-text _ _ _ c.in_ok-read_bytes.ensures c.in-Err.ensures.1 text
