-- The order goes on from the second to the third.
use Rattle.std.proofs.Common.{◌≡◌, Some, Less, Equal, refl, rules}
use Rattle.vortex_value.specs.Values.Scalars.{scalar_order}
use Rattle.law_callers.proofs.orders.order_through.Goals as goal

pub returns-in-Some-Less-Some-Less : goal.returns-in-Some-Less-Some-Less
returns-in-Some-Less-Some-Less c =
    let first : scalar_order c.args.first.now c.args.second.now ≡ Some Less = search rules in
    let second : scalar_order c.args.second.now c.args.third.now ≡ Some Less = search rules in
    c.order_is_transitive.ensures.scalars _ _ _ Less Less first second refl refl

pub returns-in-Some-Less-Some-Equal : goal.returns-in-Some-Less-Some-Equal
returns-in-Some-Less-Some-Equal c =
    let first : scalar_order c.args.first.now c.args.second.now ≡ Some Less = search rules in
    let second : scalar_order c.args.second.now c.args.third.now ≡ Some Equal = search rules in
    c.order_is_transitive.ensures.scalars _ _ _ Less Equal first second refl refl
