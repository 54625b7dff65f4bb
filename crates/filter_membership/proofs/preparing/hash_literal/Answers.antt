use Rattle.std.proofs.Common.{Some, Err, Result, ℕ, sym, ap, ◌∙◌}
use Rattle.vortex_row.specs.declared.error.RowError.{RowError}
use Rattle.vortex_cells.specs.Cells.{cell_of_ref}
use Rattle.vortex_cells.proofs.CellLaws.{ref_cell}
use Rattle.filter_membership.specs.Filters.{literal_hash}
use Rattle.filter_membership.proofs.LiteralSteps.{has_hash, no_hash}
use Rattle.filter_membership.proofs.preparing.hash_literal.Goals as goal

pub returns-in-Ok : goal.returns-in-Ok
returns-in-Ok c =
    ap Some c.in-Ok.ensures.hash ∙ sym (has_hash (cell_of_ref c.of.result) c.in-Ok.ensures.keyed)
    ∙ ap literal_hash (ref_cell c.args.literal.now c.of.result c.of.ensures.made)

pub returns-in-Err-HasVariant : goal.returns-in-Err-HasVariant
returns-in-Err-HasVariant c =
    let refused : RowError → Result ℕ RowError = λ e. Err e in
    let none = c.in-Err-HasVariant.ensures.variant.0 (ap refused c.in-Err-HasVariant.field-0-is) in
    sym (no_hash (cell_of_ref c.of.result) none) ∙ ap literal_hash (ref_cell c.args.literal.now c.of.result c.of.ensures.made)
