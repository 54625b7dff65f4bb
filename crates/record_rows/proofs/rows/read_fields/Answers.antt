-- A field more, the end, and a word that is refused.
use Rattle.std.proofs.Common.{◌≤◌, arith, subst, List, length, take, take_all}
use Rattle.std.proofs.lemmas.Result.{err_from_is_err_and}
use Rattle.vortex_value.specs.declared.scalars.Scalar.{Scalar}
use Rattle.record_rows.specs.Rows.{HasFields}
use Rattle.record_rows.specs.Walks.{IsNext}
use Rattle.record_rows.proofs.Reading.{begun_taken, ended, more_at, one_at_most}
use Rattle.record_rows.proofs.Walking.{word_refused}
use Rattle.record_rows.proofs.rows.read_fields.Goals as goal

pub returns-in_err-field-clause-refused : goal.returns-in_err-field-clause-refused
returns-in_err-field-clause-refused c =
    let p = err_from_is_err_and c.from_residual.result c.from_residual.ensures.1 in
    let s = c.args.schema.now in
    let b = c.loop-buffer.invariant.0 in
    rw (p.1, p.2) (c.in_err-field.ensures.refused s.delimiter.byte s.reading s.columns.items c.args.text.now b.fields b.walked (begun_taken _ _ _ _ _ _ _ _ b))

pub put_at-requires : goal.put_at-requires
put_at-requires c =
    let s = c.args.schema.now in
    let b = c.loop-buffer.invariant.0 in
    let is = rw c.in-Some.is at (c.in_ok-field.ensures.next s.delimiter.byte s.reading s.columns.items c.args.text.now b.fields b.walked) in
    omega (arith, is.place, b.walked.place, c.loop-buffer.invariant.2)

pub returns-in_err-flag-clause-refused : goal.returns-in_err-flag-clause-refused
returns-in_err-flag-clause-refused c =
    let p = err_from_is_err_and c.from_residual-in_err-flag.result c.from_residual-in_err-flag.ensures.1 in
    let s = c.args.schema.now in
    let b = c.loop-buffer.invariant.0 in
    let is : IsNext s.delimiter.byte s.reading s.columns.items c.args.text.now c.next_field.new.self b.fields c.in-Some.field =
    rw c.in-Some.is at (c.in_ok-field.ensures.next s.delimiter.byte s.reading s.columns.items c.args.text.now b.fields b.walked) in
    rw (p.1, p.2) (word_refused s.delimiter.byte s.reading s.columns.items c.args.text.now c.next_field.new.self b.fields c.in-Some.field c.in_err-flag.field-0.0 is (begun_taken _ _ _ _ _ _ _ _ b) c.in_err-flag.ensures.refused)

pub loop-buffer-preserved : goal.loop-buffer-preserved
loop-buffer-preserved c =
    let s = c.args.schema.now in
    let b = c.loop-buffer.invariant.0 in
    let is : IsNext s.delimiter.byte s.reading s.columns.items c.args.text.now c.next_field.new.self b.fields c.in-Some.field =
    rw c.in-Some.is at (c.in_ok-field.ensures.next s.delimiter.byte s.reading s.columns.items c.args.text.now b.fields b.walked) in
    let moves = rw c.in-Some.is at c.in_ok-field.ensures.moves in
    let reach = c.in_ok-flag.ensures.reaches in (
      more_at c.args.wanted.now s.delimiter.byte s.reading s.columns.items c.args.text.now c.loop-buffer.walk c.next_field.new.self c.in-Some.field c.loop-buffer.row.items c.put_at.new.row.items c.in_ok-flag.flag c.loop-buffer.refused c.one_more-refused.result b is
          (rw c.is_wanted-keeps.ensures at c.in_ok-flag.ensures.cell) c.one_more-refused.ensures,
      omega (arith, one_at_most c.in_ok-flag.flag, c.one_more-refused.ensures, moves.0, c.loop-buffer.invariant.1),
      omega (arith, reach.reaches, moves.0, is.place, b.walked.place),
      reach.grown (length s.columns.items) c.loop-buffer.invariant.3 is.within,
    )

pub returns-clause-fields : goal.returns-clause-fields
returns-clause-fields c =
    let s = c.args.schema.now in
    let b = c.loop-buffer.invariant.0 in
    let none = rw c.in_default.is at (c.in_ok-field.ensures.next s.delimiter.byte s.reading s.columns.items c.args.text.now b.fields b.walked) in
    let long : length c.loop-buffer.row.items ≤ c.loop-buffer.walk.place = omega (arith, c.loop-buffer.invariant.3, none.count, b.walked.place) in
    subst (λ (xs : List Scalar). HasFields c.args.wanted.now s.delimiter.byte s.reading s.columns.items c.args.text.now xs c.loop-buffer.refused) (take_all c.loop-buffer.walk.place c.loop-buffer.row.items long)
    (ended c.args.wanted.now s.delimiter.byte s.reading s.columns.items c.args.text.now c.loop-buffer.walk c.next_field.new.self (take c.loop-buffer.walk.place c.loop-buffer.row.items) c.loop-buffer.refused b none)
