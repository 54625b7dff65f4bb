-- The type, and then a value of it.
use Rattle.vortex_dtype.specs.TypeOf.{type_of}
use Rattle.vortex_cells.specs.Cells.{cell_of}
use Rattle.filter_encoding.specs.Encoding.{IsLiteral, literal_bytes}
use Rattle.filter_encoding.proofs.LiteralLaws.{literal_behind, type_stuck, valid_behind}
use Rattle.filter_encoding.proofs.ReadSteps.{passed_on}
use Rattle.filter_encoding.proofs.literals.read_literal.Goals as goal

pub read_value-requires : goal.read_value-requires
read_value-requires c = c.in_ok-dtype.ensures.is_one

pub returns-in_err-dtype-clause-read : goal.returns-in_err-dtype-clause-read
returns-in_err-dtype-clause-read c = passed_on literal_bytes IsLiteral cell_of _ _ _ _ c.from_residual.ensures (λ bad. type_stuck _ _ (c.in_err-dtype.ensures bad))

pub returns-clause-read : goal.returns-clause-read
returns-clause-read c = literal_behind (type_of c.in_ok-dtype.dtype) c.read_value.result _ _ _ c.in_ok-dtype.ensures c.read_value.ensures

pub returns-clause-valid : goal.returns-clause-valid
returns-clause-valid c = valid_behind (type_of c.in_ok-dtype.dtype) c.read_value.result _ _ c.read_value.ensures
