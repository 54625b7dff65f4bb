-- Their number, and then each.
use Rattle.vortex_dtype.specs.TypeOf.{type_of}
use Rattle.vortex_dtype.specs.TypeTree.{null_type}
use Rattle.filter_encoding.specs.Encoding.{IsPlain, type_bytes}
use Rattle.filter_encoding.specs.Lists.{AreListed, listed}
use Rattle.filter_encoding.proofs.ListLaws.{count_stuck, list_answer}
use Rattle.filter_encoding.proofs.TypeLaws.{a_type}
use Rattle.filter_encoding.proofs.PlaceLaws.{places_apart}
use Rattle.filter_encoding.proofs.ReadSteps.{passed_on}
use Rattle.filter_encoding.proofs.types.read_types.Goals as goal

pub returns-in_err-count : goal.returns-in_err-count
returns-in_err-count c = passed_on (listed type_bytes) (AreListed IsPlain) _ _ _ _ _ c.from_residual.ensures (λ bad. count_stuck type_bytes IsPlain null_type a_type _ _ (c.in_err-count.ensures bad))

pub returns : goal.returns
returns c = list_answer places_apart type_bytes IsPlain type_of c.in_ok-count.count c.read_so_many.result _ _ _ c.in_ok-count.ensures c.read_so_many.ensures
