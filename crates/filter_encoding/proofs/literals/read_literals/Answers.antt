-- Their number, and then each.
use Rattle.vortex_cells.specs.Cells.{cell_of}
use Rattle.filter_encoding.specs.Encoding.{IsLiteral, literal_bytes}
use Rattle.filter_encoding.specs.Lists.{AreListed, listed}
use Rattle.filter_encoding.proofs.ListLaws.{count_stuck, list_answer}
use Rattle.filter_encoding.proofs.LiteralLaws.{null_literal}
use Rattle.filter_encoding.proofs.PlaceLaws.{places_apart}
use Rattle.filter_encoding.proofs.ReadSteps.{passed_on}
use Rattle.filter_encoding.proofs.literals.read_literals.Goals as goal

pub returns-in_err-count-clause-read : goal.returns-in_err-count-clause-read
returns-in_err-count-clause-read c = passed_on (listed literal_bytes) (AreListed IsLiteral) _ _ _ _ _ c.from_residual.ensures (λ bad. count_stuck literal_bytes IsLiteral _ null_literal _ _ (c.in_err-count.ensures bad))

pub returns-clause-read : goal.returns-clause-read
returns-clause-read c = list_answer places_apart literal_bytes IsLiteral cell_of c.in_ok-count.count c.read_so_many.result _ _ _ c.in_ok-count.ensures c.read_so_many.ensures.read
