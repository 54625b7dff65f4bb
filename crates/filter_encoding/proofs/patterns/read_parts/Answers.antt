-- Their number, and then each.
use Rattle.like_patterns.specs.Patterns.{any_string}
use Rattle.filter_encoding.specs.Lists.{AreListed, listed}
use Rattle.filter_encoding.specs.Patterns.{IsPart, part_bytes, part_of}
use Rattle.filter_encoding.proofs.ListLaws.{count_stuck, list_answer}
use Rattle.filter_encoding.proofs.PartLaws.{null_part}
use Rattle.filter_encoding.proofs.PlaceLaws.{places_apart}
use Rattle.filter_encoding.proofs.ReadSteps.{passed_on}
use Rattle.filter_encoding.proofs.patterns.read_parts.Goals as goal

pub returns-in_err-count : goal.returns-in_err-count
returns-in_err-count c = passed_on (listed part_bytes) (AreListed IsPart) _ _ _ _ _ c.from_residual.ensures (λ bad. count_stuck part_bytes IsPart any_string null_part _ _ (c.in_err-count.ensures bad))

pub returns : goal.returns
returns c = list_answer places_apart part_bytes IsPart part_of c.in_ok-count.count c.read_so_many.result _ _ _ c.in_ok-count.ensures c.read_so_many.ensures
