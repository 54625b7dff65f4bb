-- The literal is of no logical type.
use Rattle.std.proofs.Common.{refl}
use Rattle.vortex_cells.specs.Cells.{cell_of}
use Rattle.filter_encoding.proofs.ValueLaws.{valid_plain}
use Rattle.filter_encoding.proofs.values.is_logically_valid.Goals as goal

pub returns-in_default : goal.returns-in_default
returns-in_default c = ((λ e. valid_plain (cell_of c.args.literal.now) c.in_default.ensures.none), (λ v. refl))
