use Rattle.std.proofs.Common.{ap, ◌∙◌}
use Rattle.vortex_cells.specs.Cells.{cell_of, cell_of_ref, cell_order}
use Rattle.vortex_cells.proofs.CellLaws.{ref_cell}
use Rattle.vortex_cells.proofs.comparing.compare_scalars.Goals as goal

pub returns : goal.returns
returns c =
    c.compare_refs.ensures
    ∙ ap (λ x. cell_order x (cell_of_ref c.of-2.result)) (ref_cell c.args.a.now c.of.result c.of.ensures.made)
    ∙ ap (λ y. cell_order (cell_of c.args.a.now) y) (ref_cell c.args.b.now c.of-2.result c.of-2.ensures.made)
