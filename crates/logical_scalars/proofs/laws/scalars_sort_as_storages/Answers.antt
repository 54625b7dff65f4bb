use Rattle.logical_scalars.proofs.Sorted.{sorted}
use Rattle.logical_scalars.proofs.laws.scalars_sort_as_storages.Goals as goal

pub returns : goal.returns
returns c = sorted c.args.logical c.storages_fit.ensures c.decimal_bytes_sort_as_numbers.ensures c.equality_decides.ensures
