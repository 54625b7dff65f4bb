use Rattle.std.proofs.Common.{◌∙◌, ap, arith, subst, ◌*◌, ◌≤◌, length}
use Rattle.arrow_columns.specs.Casts.{AreCastTo, IsFirstWithout}
use Rattle.arrow_columns.specs.Columns.{IsIntegerColumn, integer_cells}
use Rattle.arrow_columns.specs.Integers.{width_of}
use Rattle.arrow_columns.specs.declared.columns.Column.{Column}
use Rattle.vortex_c.proofs.StartSteps.{start-cells}
use Rattle.vortex_c.proofs.column_casts.cast.Goals as goal

pub returns-in-Ok-cast-clause-cast : goal.returns-in-Ok-cast-clause-cast
returns-in-Ok-cast-clause-cast c =
    let rows = c.in-Ok.given.rows in
    let into = c.in-Ok.given.into in
    let fits : c.args.column.length * width_of into ≤ length c.cast.new.buffer = omega (arith, c.in-Ok.ensures.fits, c.cast.auto.buffer) in
    record {
      from = rows.kind;
      into = into;
      kinds = c.in-Ok.ensures.kinds;
      is_column = subst (λ (column : Column). IsIntegerColumn rows.kind column) c.in-Ok.ensures.column rows.is_column;
      fits = fits;
      cast = subst (λ cells. AreCastTo into cells c.cast.new.buffer) (ap (integer_cells rows.kind) c.in-Ok.ensures.column ∙ start-cells rows.kind c.args.column) c.in-Ok-cast.ensures.cast;
    }

pub returns-in-Err-cast-clause-refused : goal.returns-in-Err-cast-clause-refused
returns-in-Err-cast-clause-refused c =
    let rows = c.in-Ok.given.rows in
    let into = c.in-Ok.given.into in
    let row = c.in-Err-cast.fault.row in (
      rows.kind,
      into,
      c.in-Ok.ensures.kinds,
      subst (λ (column : Column). IsIntegerColumn rows.kind column) c.in-Ok.ensures.column rows.is_column,
      c.in-Ok.ensures.fits,
      subst (λ cells. IsFirstWithout into cells row) (ap (integer_cells rows.kind) c.in-Ok.ensures.column ∙ start-cells rows.kind c.args.column) c.in-Err-cast.ensures.fault,
    )
