use Rattle.vortex_row.proofs.KeyLaws.{keys_are_ordered}
use Rattle.vortex_row.proofs.laws.keys_are_ordered.Goals as goal

pub returns : goal.returns
returns c = keys_are_ordered
