-- A guess more, and the end of the row or of the guesses.
use Rattle.std.proofs.Common.{◌≡◌, ◌∙◌, ◌∷◌, [], arith, subst}
use Rattle.csv_records.specs.declared.delimiter.Delimiter.{Delimiter}
use Rattle.csv_columns.specs.Guesses.{field_of, fields_left, fields_of}
use Rattle.csv_columns.proofs.Columns.{all_read, all_seen, none_shown, one_shown}
use Rattle.csv_columns.proofs.guessing.see_record.Goals as goal

pub loop-place-init : goal.loop-place-init
loop-place-init c = (
  none_shown c.args.delimiter.byte c.args.reading.now (fields_of c.args.delimiter.byte c.args.line.now) c.args.guesses.now c.of-fields.result.follows c.of-fields.ensures.fields,
  c.of-fields.ensures.delimiter,
)

pub loop-place-preserved : goal.loop-place-preserved
loop-place-preserved c =
    let at = c.loop-place in
    let d = c.args.delimiter.byte in
    let row = fields_of d c.args.line.now in
    let f = field_of c.in-Some.field in
    let follows = c.next_field.new.self.follows in
    let next = rw c.in-Some.is at c.in_ok-field.ensures.next in
    let left = subst (λ (x : Delimiter). fields_left x.byte at.fields.follows ≡ f ∷ fields_left x.byte follows) at.invariant.1 next in (
      one_shown d c.args.reading.now row at.place c.args.guesses.now at.guesses at.fields.follows follows f _ c.guess_after.result at.invariant.0 left (omega arith) c.guess_after.ensures,
      c.in_ok-field.ensures.delimiter ∙ at.invariant.1,
    )

pub returns-in_default-clause-count : goal.returns-in_default-clause-count
returns-in_default-clause-count c = c.loop-place.invariant.0.same

pub returns-in_default-clause-see : goal.returns-in_default-clause-see
returns-in_default-clause-see c =
    let at = c.loop-place in
    let d = c.args.delimiter.byte in
    let next = rw c.in_default.is at c.in_ok-field.ensures.next in
    let left = subst (λ (x : Delimiter). fields_left x.byte at.fields.follows ≡ []) at.invariant.1 next in
    (all_read d c.args.reading.now (fields_of d c.args.line.now) at.place c.args.guesses.now at.guesses at.fields.follows at.invariant.0 left).see

pub returns-clause-count : goal.returns-clause-count
returns-clause-count c = c.loop-place.invariant.0.same

pub returns-clause-see : goal.returns-clause-see
returns-clause-see c =
    let at = c.loop-place in
    let d = c.args.delimiter.byte in
    (all_seen d c.args.reading.now (fields_of d c.args.line.now) at.place c.args.guesses.now at.guesses at.fields.follows at.invariant.0 (omega arith)).see
