-- A cell that is wanted, and a scalar in place of one that is not.
use Rattle.std.proofs.Common.{arith, ◌+◌, ◌<◌, ◌∙◌, Bool, ap, length, subst, sym, take}
use Rattle.record_rows.specs.Rows.{IsTakenIf}
use Rattle.record_rows.specs.Walks.{field_of}
use Rattle.record_rows.proofs.Reading.{pushes_untaken, put_over}
use Rattle.record_rows.proofs.rows.put_at.Goals as goal

pub returns-in_ok-flag-clause-cell : goal.returns-in_ok-flag-clause-cell
returns-in_ok-flag-clause-cell c =
    let f = c.args.field.now in
    let cell = c.take_field.new.cell in
    record {
      cell = cell;
      is = subst (λ (b : Bool). IsTakenIf b c.args.reading.now f.column (field_of f) cell c.in_ok-flag.flag) (sym c.if-keeps.true) c.in_ok-flag.ensures.taken;
      pushed = put_over c.args.row.now.items c.fill_at.new.row.items f.place cell c.in_ok-fill_at.ensures.reaches.reaches c.in_ok-fill_at.ensures.kept;
    }

pub returns-in_ok-flag-2-clause-cell : goal.returns-in_ok-flag-2-clause-cell
returns-in_ok-flag-2-clause-cell c =
    let f = c.args.field.now in
    let stands = c.in_ok-fill_at.ensures.put in
    pushes_untaken c.args.keeps c.args.reading.now f.column (field_of f) stands.0 (take f.place c.args.row.now.items) (take (f.place + 1) c.fill_at.new.row.items) c.in_ok-flag-2.flag
    c.if-keeps.false c.in_ok-flag-2.ensures.tested stands.1
