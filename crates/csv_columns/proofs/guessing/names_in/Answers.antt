-- A name more, and the end of the row.
use Rattle.std.proofs.Common.{◌≡◌, ◌∙◌, ◌∷◌, List, [], ap, subst, sym, ℕ}
use Rattle.std.proofs.lemmas.List.{map-append}
use Rattle.std.specs.Global.{Global}
use Rattle.std.specs.Prelude.{string_bytes}
use Rattle.std.specs.declared.string.String.{String}
use Rattle.csv_records.specs.declared.delimiter.Delimiter.{Delimiter}
use Rattle.csv_columns.specs.Guesses.{field_of, fields_left, fields_of, without_mark}
use Rattle.csv_columns.specs.Names.{texts}
use Rattle.csv_columns.proofs.Columns.{Named, all_named, none_named, one_named}
use Rattle.csv_columns.proofs.guessing.names_in.Goals as goal

pub loop-buffer-init : goal.loop-buffer-init
loop-buffer-init c =
    let d = c.args.delimiter.byte in
    let row = fields_of d (without_mark c.args.header.now) in (
      subst (λ (x : List (String Global)). Named d row (texts x) c.of-fields.result.follows) (sym c.new-names.ensures.items)
          (none_named d row c.of-fields.result.follows (c.of-fields.ensures.fields ∙ ap (fields_of d) c.without_mark.ensures)),
      c.of-fields.ensures.delimiter,
    )

pub loop-buffer-preserved : goal.loop-buffer-preserved
loop-buffer-preserved c =
    let at = c.loop-buffer in
    let d = c.args.delimiter.byte in
    let row = fields_of d (without_mark c.args.header.now) in
    let f = field_of c.in-Some.field in
    let name = c.in_ok-name.name in
    let follows = c.next_field.new.self.follows in
    let next = rw c.in-Some.is at c.in_ok-field.ensures.next in
    let left = subst (λ (x : Delimiter). fields_left x.byte at.fields.follows ≡ f ∷ fields_left x.byte follows) at.invariant.1 next in (
      subst (λ (x : List (String Global)). Named d row (texts x) follows) (sym c.in_ok-push.ensures.items)
          (subst (λ (x : List (List ℕ)). Named d row x follows) (sym (map-append string_bytes at.names.items (name ∷ [])))
          (one_named d row (texts at.names.items) (string_bytes name) at.fields.follows follows f at.invariant.0 left (c.in_ok-name.ensures.ok ∙ c.text_or_empty.ensures))),
      c.in_ok-field.ensures.delimiter ∙ at.invariant.1,
    )

pub returns : goal.returns
returns c =
    let at = c.loop-buffer in
    let d = c.args.delimiter.byte in
    let next = rw c.in_default.is at c.in_ok-field.ensures.next in
    let left = subst (λ (x : Delimiter). fields_left x.byte at.fields.follows ≡ []) at.invariant.1 next in
    all_named d (fields_of d (without_mark c.args.header.now)) (texts at.names.items) at.fields.follows at.invariant.0 left
