-- The bits before the first that is set, eight a byte.
use Rattle.vortex_row.proofs.LengthSteps.{unused-bytes, bytes-dropped}
use Rattle.vortex_row.proofs.lengths.leading_zero_bytes.Goals as goal

pub returns-clause-count : goal.returns-clause-count
returns-clause-count c = unused-bytes c.args.number c.ranges.number.fits

pub returns-clause-bytes : goal.returns-clause-bytes
returns-clause-bytes c = bytes-dropped c.args.number _ (unused-bytes c.args.number c.ranges.number.fits)
