-- A scalar in place of a cell that is not wanted, and a cell that is.
use Rattle.record_rows.specs.Walks.{field_of}
use Rattle.record_rows.proofs.Reading.{put_over}
use Rattle.record_rows.proofs.Wanting.{read_of, unlike}
use Rattle.record_rows.proofs.wanted.put_where.Goals as goal

pub returns-then-not-keeps-clause-cell : goal.returns-then-not-keeps-clause-cell
returns-then-not-keeps-clause-cell c = λ done.
    let stands = c.in-Ok.ensures.put in
    record { cell = stands.0; is = λ wants. absurd (unlike c.args.keeps wants c.if-not-keeps.true); pushed = stands.1 }

pub returns-clause-cell : goal.returns-clause-cell
returns-clause-cell c = λ done.
    let cell = c.take_field.new.cell in
    record {
      cell = cell;
      is = λ wants. read_of c.args.reading.now c.args.field.now.column (field_of c.args.field.now) cell c.take_field.result c.is_ok.result c.is_ok.ensures.value done c.take_field.ensures.taken;
      pushed = put_over c.args.row.now.items c.fill_at.new.row.items c.args.field.now.place cell c.in-Ok.ensures.reaches.reaches c.in-Ok.ensures.kept;
    }
