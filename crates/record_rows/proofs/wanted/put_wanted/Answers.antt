-- A field more.
use Rattle.std.proofs.Common.{arith, length, rules}
use Rattle.record_rows.specs.Walks.{IsNext}
use Rattle.record_rows.proofs.Wanting.{all_put, more_put}
use Rattle.record_rows.proofs.wanted.put_wanted.Goals as goal

pub put_where-requires : goal.put_where-requires
put_where-requires c =
    let s = c.args.schema.now in
    let b = c.loop-walk.invariant.0 in
    let is = rw c.in-Ok-Some.field-0-is at (c.in-Ok-Some.ensures.next s.delimiter.byte s.reading s.columns.items c.args.text.now b.fields b.walked) in
    omega (arith, is.place, b.walked.place, c.loop-walk.invariant.1)

pub loop-walk-preserved : goal.loop-walk-preserved
loop-walk-preserved c =
    let s = c.args.schema.now in
    let b = c.loop-walk.invariant.0 in
    let is : IsNext s.delimiter.byte s.reading s.columns.items c.args.text.now c.next_field.new.self b.fields c.in-Ok-Some.field =
    rw c.in-Ok-Some.field-0-is at (c.in-Ok-Some.ensures.next s.delimiter.byte s.reading s.columns.items c.args.text.now b.fields b.walked) in
    let moves = rw c.in-Ok-Some.field-0-is at c.in-Ok-Some.ensures.moves in
    let reach = c.put_where.ensures.reaches c.if-not-put_where.false in (
      more_put c.args.wanted.now s.delimiter.byte s.reading s.columns.items c.args.text.now c.loop-walk.walk c.next_field.new.self c.in-Ok-Some.field c.loop-walk.row.items c.put_where.new.row.items b is
          (rw c.is_wanted-keeps.ensures at (c.put_where.ensures.cell c.if-not-put_where.false)),
      omega (arith, reach.reaches, moves.0, is.place, b.walked.place),
      reach.grown (length s.columns.items) c.loop-walk.invariant.2 is.within,
    )

pub returns : goal.returns
returns c = λ done.
    let s = c.args.schema.now in
    all_put c.args.wanted.now s.delimiter.byte c.through_wanted-count.result s.reading s.columns.items c.args.text.now c.loop-walk.walk c.loop-walk.row.items c.loop-walk.invariant.0 (search rules) c.loop-walk.invariant.2
    (λ k wants below. c.through_wanted-count.ensures.past k wants (omega (arith, below, c.len.ensures)))
