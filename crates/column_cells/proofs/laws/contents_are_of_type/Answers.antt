-- The law, by the kinds of rows.
use Rattle.column_cells.proofs.TypeLaws.{of_type}
use Rattle.column_cells.proofs.laws.contents_are_of_type.Goals as goal

pub returns : goal.returns
returns c = of_type
