-- A number that becomes the bound, and one that does not.
use Rattle.std.proofs.Common.{rules, ◌≡◌, false, true, Some}
use Rattle.std.specs.Ordering.{int_cmp}
use Rattle.vortex_pvalue.specs.Whole.{whole_of}
use Rattle.vortex_statistics.specs.Statistics.{known_bound}
use Rattle.vortex_value.specs.declared.values.ScalarValue.{the_lemmas as value_lemmas}
use Rattle.vortex_value.specs.declared.values.ScalarValue.TheVariants as values
use Rattle.record_rows.proofs.Within.{is_number, not_raised, number_scalar, raised}
use Rattle.record_rows.proofs.in_place.raise_to.Goals as goal

pub returns-then-not-is_kept-clause-raised : goal.returns-then-not-is_kept-clause-raised
returns-then-not-is_kept-clause-raised c = λ _.
    let arm = c.in-Some-Primitive in
    let old = c.args.upper.now in
    let no : c.is_kept.result ≡ false = cc in
    let is : old.value.value ≡ Some (values.Primitive arm.greatest) = cc in
    let told : arm.field-0 ≡ values.Primitive arm.greatest = cc in
    let order : c.partial_cmp.result ≡ Some (int_cmp (whole_of c.args.number) (whole_of arm.greatest)) = grind rules in
    raised arm.greatest c.args.number c.partial_cmp.result (known_bound old) _ (is_number arm.greatest old (number_scalar arm.greatest old.value is)) order (c.is_kept.ensures.past no) (rw told (search (rules, value_lemmas)))

pub returns-else-not-is_kept-clause-raised : goal.returns-else-not-is_kept-clause-raised
returns-else-not-is_kept-clause-raised c = λ _.
    let arm = c.in-Some-Primitive in
    let old = c.args.upper.now in
    let yes : c.is_kept.result ≡ true = cc in
    let is : old.value.value ≡ Some (values.Primitive arm.greatest) = cc in
    let told : arm.field-0 ≡ values.Primitive arm.greatest = cc in
    let order : c.partial_cmp.result ≡ Some (int_cmp (whole_of c.args.number) (whole_of arm.greatest)) = grind rules in
    not_raised arm.greatest c.args.number c.partial_cmp.result (known_bound old) _ (is_number arm.greatest old (number_scalar arm.greatest old.value is)) order (c.is_kept.ensures.kept yes) (rw told (search (rules, value_lemmas)))
