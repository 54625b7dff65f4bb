-- A cell of which a scalar is made.
use Rattle.std.proofs.Common.{◌≡◌, subst}
use Rattle.vortex_cells.specs.Cells.{Cell, cell_of, cell_of_ref}
use Rattle.vortex_statistics.specs.Statistics.{known}
use Rattle.vortex_cells.proofs.CellLaws.{ref_cell}
use Rattle.record_rows.specs.Observed.{ObservesCell}
use Rattle.record_rows.specs.Walks.{field_of}
use Rattle.record_rows.proofs.Within.{cell_observed, taken_valid}
use Rattle.record_rows.proofs.observing.observe_taken.Goals as goal

pub returns-in-Ok-clause-observed : goal.returns-in-Ok-clause-observed
returns-in-Ok-clause-observed c =
    let f = c.args.field.now in
    let cell = c.take_field.new.cell in
    let old = known c.args.statistics.now in
    let same : cell_of_ref c.of.result ≡ cell_of cell = ref_cell cell c.of.result c.of.ensures.made in
    cell_observed c.args.reading.now f.column (field_of f) cell c.in_ok-flag.flag old (known c.observe.new.self) c.in_ok-flag.ensures.taken
    (subst (λ (x : Cell). ObservesCell old x (known c.observe.new.self)) same (record { is = c.in-Ok.ensures.value; fits = c.in-Ok.ensures.fits; right = c.in-Ok.ensures.right; complete = c.in-Ok.ensures.complete }))

pub returns-in-Ok-clause-valid : goal.returns-in-Ok-clause-valid
returns-in-Ok-clause-valid c = λ valid.
    let f = c.args.field.now in
    c.in-Ok.ensures.valid (c.of.ensures.valid (taken_valid c.args.reading.now f.column (field_of f) c.take_field.new.cell c.in_ok-flag.flag c.in_ok-flag.ensures.taken)) valid
