-- The value is valid for the type of the format.
use Rattle.std.proofs.Common.{subst, sym}
use Rattle.vortex_value.specs.Validity.{Valid}
use Rattle.vortex_value.specs.Values.RawOf.{raw_of}
use Rattle.column_cells.proofs.scalars.value_scalar.Goals as goal

pub returns-clause-valid : goal.returns-clause-valid
returns-clause-valid c = subst (λ t. Valid t (raw_of c.stored_value.result)) (sym c.in_ok-dtype.ensures) c.stored_value.ensures.valid
