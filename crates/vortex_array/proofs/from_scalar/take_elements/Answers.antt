use Rattle.std.proofs.Common.{◌≡◌, ◌++◌, ◌∷◌, [], Err, refl, ap, add-one, rules}
use Rattle.std.proofs.Math.ListN.{drop_of_length-le}
use Rattle.vortex_dtype.specs.TypeOf.{type_of}
use Rattle.vortex_value.specs.Conversions.{each_taken}
use Rattle.vortex_value.specs.Values.RawOf.{value_trees}
use Rattle.vortex_array.specs.Conversions.{given_each}
use Rattle.vortex_array.proofs.TakenEach.{all_refused, all_taken, one_more, parts_at}
use Rattle.vortex_array.proofs.from_scalar.take_elements.Goals as goal

pub returns-in_err-take_element-clause-value : goal.returns-in_err-take_element-clause-value
returns-in_err-take_element-clause-value g c =
    let l = c.loop-part in
    let is : c.from_residual-in_err-take_element.result ≡ Err c.in_err-take_element.field-0.0 = search rules in
    let here = ap (λ vs. each_taken (g.T.FromScalar.taken (type_of c.args.element.now)) (value_trees vs)) (parts_at c.args.parts.now l.part-index c.part-item.result c.loop-part-test.true c.part-item.is) in
    rw is (all_refused _ _ (given_each g.T.FromScalar.given l.taken.items) _ _ _ _ l.invariant here _ c.in_err-take_element.ensures)

pub loop-part-preserved : goal.loop-part-preserved
loop-part-preserved g c =
    let l = c.loop-part in
    let pushed : c.push.new.self.items ≡ c.loop-part.taken.items ++ c.in_ok-take_element.field-0 ∷ [] = search rules in
    let here = ap (λ vs. each_taken (g.T.FromScalar.taken (type_of c.args.element.now)) (value_trees vs)) (parts_at c.args.parts.now l.part-index c.part-item.result c.loop-part-test.true c.part-item.is) in
    rw (add-one, pushed) (one_more _ l.taken.items c.in_ok-take_element.field-0 _ _ _ _ l.invariant here c.in_ok-take_element.ensures)

pub returns-clause-value : goal.returns-clause-value
returns-clause-value g c =
    let l = c.loop-part in
    let rest = ap (λ vs. each_taken (g.T.FromScalar.taken (type_of c.args.element.now)) (value_trees vs)) (drop_of_length-le c.args.parts.now c.loop-part-test.false) in
    let all = all_taken (given_each g.T.FromScalar.given l.taken.items) _ _ l.invariant rest in
    rw all refl
