-- A number that is stored, but no value's.
use Rattle.std.proofs.Common.{◌≡◌, ◌∙◌, FitsSigned, ap, arith, subst, sym}
use mir.Syntax.{w128}
use mir.Val.{of_z, to_z}
use Rattle.std.proofs.lemmas.Int.{ints}
use Rattle.logical_types.specs.Words.{IsStorageOf}
use Rattle.vortex_value.specs.Values.Content.{content, string, whole}
use Rattle.vortex_value.specs.Values.RawOf.{value_tree}
use Rattle.vortex_value.specs.declared.values.ScalarValue.{ScalarValue}
use Rattle.column_items.proofs.NumberSteps.{Holds, bytes_tree, no_bytes, no_whole, untrue, whole_tree}
use Rattle.column_items.proofs.numbers.stored_number.Goals as goal
use Rattle.column_items.proofs.numbers.stored_number.Goals.{in-Primitive, in-Binary+in_ok-number-in-Binary}

pub returns-else-is_value_of : goal.returns-else-is_value_of
returns-else-is_value_of c =
    let l = c.in_ok-logical.logical in
    elim c.match-value.branch [
      | in-Primitive w ↦
          let back : to_z w128 (of_z w128 w.whole-number.result) ≡ w.whole-number.result = omega (arith, ints) in
          no_whole c.args.format l _ w.whole-number.result (subst (Holds c.args.format) w.if-not-is_wide.true w.is_wide.ensures.stored)
          (ap (λ (v : ScalarValue). content (value_tree v)) w.in-Primitive.is ∙ whole_tree w.in-Primitive.number ∙ ap whole (sym w.whole-number.ensures.whole)) c.in_ok-logical.ensures.some
          (λ h. untrue c.is_value_of.result c.if-is_value_of.false (c.is_value_of.ensures.1 (subst (IsStorageOf c.in_ok-logical.logical) (sym (w.number-is ∙ back)) h)))
      | in-Binary+in_ok-number-in-Binary w ↦
          let back : to_z w128 (of_z w128 w.in_ok-number-in-Binary.number) ≡ w.in_ok-number-in-Binary.number = omega (arith, ints) in
          let fits : FitsSigned w128 w.in_ok-number-in-Binary.number = omega (arith, ints) in
          no_bytes c.args.format l _ w.as_slice.result.now w.in_ok-number-in-Binary.number c.decimal_bytes_sort_as_numbers.ensures fits w.if-is_wide.ensures.stored
          (ap (λ (v : ScalarValue). content (value_tree v)) w.in-Binary.is ∙ bytes_tree w.in-Binary.bytes ∙ ap string (sym w.as_slice.ensures)) w.in_ok-number-in-Binary.ensures.some c.in_ok-logical.ensures.some
          (λ h. untrue c.is_value_of.result c.if-is_value_of.false (c.is_value_of.ensures.1 (subst (IsStorageOf c.in_ok-logical.logical) (sym (w.number-is ∙ back)) h)))
    ]
