-- A field more, and the end of the row.
use Rattle.std.proofs.Common.{◌≡◌, ◌∙◌, ◌∷◌, List, [], subst, sym}
use Rattle.csv_columns.specs.Guesses.{field_of, fields_left, fields_of}
use Rattle.csv_records.specs.declared.delimiter.Delimiter.{Delimiter}
use Rattle.csv_columns.specs.declared.kinds.Guess.{Guess}
use Rattle.csv_columns.proofs.Columns.{Begun, all_begun, first_sees, none_begun, one_begun}
use Rattle.csv_columns.proofs.guessing.first_guesses.Goals as goal

pub loop-buffer-init : goal.loop-buffer-init
loop-buffer-init c = (
  subst (λ (x : List Guess). Begun c.args.delimiter.byte c.args.reading.now (fields_of c.args.delimiter.byte c.args.line.now) x c.of-fields.result.follows) (sym c.new-guesses.ensures.items)
      (none_begun c.args.delimiter.byte c.args.reading.now (fields_of c.args.delimiter.byte c.args.line.now) c.of-fields.result.follows c.of-fields.ensures.fields),
  c.of-fields.ensures.delimiter,
)

pub loop-buffer-preserved : goal.loop-buffer-preserved
loop-buffer-preserved c =
    let at = c.loop-buffer in
    let d = c.args.delimiter in
    let f = field_of c.in-Some.field in
    let next = rw c.in-Some.is at c.in_ok-field.ensures.next in
    let left = subst (λ (x : Delimiter). fields_left x.byte at.fields.follows ≡ f ∷ fields_left x.byte c.next_field.new.self.follows) at.invariant.1 next in (
      subst (λ (x : List Guess). Begun d.byte c.args.reading.now (fields_of d.byte c.args.line.now) x c.next_field.new.self.follows) (sym c.in_ok-push.ensures.items)
          (one_begun d.byte c.args.reading.now (fields_of d.byte c.args.line.now) at.guesses.items at.fields.follows c.next_field.new.self.follows f c.guess_after.result at.invariant.0 left (c.guess_after.ensures [] first_sees)),
      c.in_ok-field.ensures.delimiter ∙ at.invariant.1,
    )

pub returns-clause-count : goal.returns-clause-count
returns-clause-count c =
    let at = c.loop-buffer in
    let d = c.args.delimiter in
    let next = rw c.in_default.is at c.in_ok-field.ensures.next in
    let left = subst (λ (x : Delimiter). fields_left x.byte at.fields.follows ≡ []) at.invariant.1 next in
    (all_begun d.byte c.args.reading.now (fields_of d.byte c.args.line.now) at.guesses.items at.fields.follows at.invariant.0 left).count

pub returns-clause-see : goal.returns-clause-see
returns-clause-see c =
    let at = c.loop-buffer in
    let d = c.args.delimiter in
    let next = rw c.in_default.is at c.in_ok-field.ensures.next in
    let left = subst (λ (x : Delimiter). fields_left x.byte at.fields.follows ≡ []) at.invariant.1 next in
    (all_begun d.byte c.args.reading.now (fields_of d.byte c.args.line.now) at.guesses.items at.fields.follows at.invariant.0 left).see
