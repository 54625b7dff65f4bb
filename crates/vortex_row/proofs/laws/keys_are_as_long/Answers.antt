use Rattle.vortex_row.proofs.EncodeSteps.{key_with-length}
use Rattle.vortex_row.proofs.RowSteps.{row-length}
use Rattle.vortex_row.proofs.laws.keys_are_as_long.Goals as goal

pub returns : goal.returns
returns c = record { columns = key_with-length; rows = row-length }
