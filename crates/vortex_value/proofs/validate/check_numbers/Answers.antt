use Rattle.std.proofs.Common.{◌+◌, drop}
use Rattle.vortex_dtype.specs.TypeTree.{integer_type}
use Rattle.vortex_dtype.specs.declared.error.Step.TheVariants.{Element}
use Rattle.vortex_value.specs.Breaches.{breaches, element_breaches}
use Rattle.vortex_value.specs.Values.RawOf.{raw_of, value_trees}
use Rattle.vortex_value.proofs.ValidSteps.{elements_at, refused, Checks-part}
use Rattle.vortex_value.proofs.validate.check_numbers.Goals as goal

pub returns-then-not-check_number : goal.returns-then-not-check_number
returns-then-not-check_number c =
    let path = c.args.trace.now.alloc in
    let e = integer_type c.args.ptype c.args.nullability in
    let i = c.loop-index.index in
    let items = c.args.items.now in
    let v = c.index-items-index.result in
    let fs = breaches e (raw_of v) in
    let part = refused path _ _ c.check_number.new.trace fs c.loop-index.invariant.alloc (rw c.as_ref.ensures.value at c.check_number.ensures) c.if-not-check_number.true in
    rw (c.loop-index.invariant.left, elements_at e i items v c.loop-index-test.true c.index-items-index.is)
    (Checks-part path c.refuse_in_part.result c.check_number.new.trace c.refuse_in_part.new.self (Element i) fs (element_breaches e (i + 1) (value_trees (drop (i + 1) items))) part (c.refuse_in_part.ensures path fs part))
