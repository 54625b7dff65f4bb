use Rattle.logical_types.proofs.WideBytes.{sorted}
use Rattle.logical_types.proofs.laws.decimal_bytes_sort_as_numbers.Goals as goal

pub returns : goal.returns
returns c = sorted
