-- Each loop counts a part more, and truth values and integers take the same each.
use Rattle.std.proofs.Common.{◌≡◌, ◌*◌, length, refl, sym, ap, ◌∙◌, arith}
use native.Mathlib.Nat.{suc-mul}
use Rattle.vortex_dtype.specs.PTypes.{byte_width_of}
use Rattle.vortex_dtype.specs.TypeOf.{map_of, type_of}
use Rattle.vortex_dtype.specs.TypeTree.{TypeTree, bool_type, integer_type, storage}
use Rattle.vortex_dtype.specs.declared.nullability.Nullability.{Nullability}
use Rattle.vortex_dtype.specs.declared.ptype.PType.{PType}
use Rattle.vortex_value.specs.Size.{capped, elements_size}
use Rattle.vortex_value.specs.Values.RawOf.{value_trees}
use Rattle.vortex_value.specs.Values.RawTree.{RawTrees, no_raws, raw_then, count}
use Rattle.vortex_value.proofs.Leaves.{type_of-Bool, type_of-Primitive}
use Rattle.vortex_value.proofs.SizeSteps.{counted, elements_size_at, entries_size_at}
use Rattle.vortex_value.proofs.ValueSteps.{count-value_trees}
use Rattle.vortex_value.proofs.size.+size.Goals as goal

truths_size : (e : TypeTree) (n : Nullability) (vs : RawTrees) → storage e ≡ bool_type n → elements_size e vs ≡ count vs
truths_size e n no_raws h = refl
truths_size e n (raw_then v vs) h = rw (h, truths_size e n vs h) (omega arith)

integers_size : (e : TypeTree) (k : PType) (n : Nullability) (vs : RawTrees) → storage e ≡ integer_type k n → elements_size e vs ≡ count vs * byte_width_of k
integers_size e k n no_raws h = omega arith
integers_size e k n (raw_then v vs) h = rw (h, integers_size e k n vs h) (omega (arith, suc-mul (count vs) (byte_width_of k)))

pub size_of_elements-returns-in-Bool : goal.size_of_elements-returns-in-Bool
size_of_elements-returns-in-Bool t c =
    let vs = c.args.items.now in
    let stored : storage (type_of c.args.element.now) ≡ bool_type c.in-Bool.field-0 = sym c.storage_of.ensures ∙ ap type_of c.in-Bool.is ∙ type_of-Bool c.in-Bool.field-0 in
    let all : elements_size (type_of c.args.element.now) (value_trees vs) ≡ length vs = truths_size _ _ (value_trees vs) stored ∙ count-value_trees vs in
    rw all (omega arith)

pub size_of_elements-returns-in-Primitive : goal.size_of_elements-returns-in-Primitive
size_of_elements-returns-in-Primitive t c =
    let vs = c.args.items.now in
    let k = c.in-Primitive.ptype in
    let stored : storage (type_of c.args.element.now) ≡ integer_type k c.in-Primitive.field-1 = sym c.storage_of.ensures ∙ ap type_of c.in-Primitive.is ∙ type_of-Primitive k c.in-Primitive.field-1 in
    let all : elements_size (type_of c.args.element.now) (value_trees vs) ≡ length vs * byte_width_of k = integers_size _ k _ (value_trees vs) stored ∙ ap (λ n. n * byte_width_of k) (count-value_trees vs) in
    rw (all, c.saturating_mul.ensures, c.byte_width.ensures) refl

pub size_of_parts-loop-item-preserved : goal.size_of_parts-loop-item-preserved
size_of_parts-loop-item-preserved t c =
    let left = rw (elements_size_at (type_of c.args.element.now) c.loop-item.item-index c.args.items.now c.item-item.result c.loop-item-test.true c.item-item.is) at c.loop-item.invariant.1 in
    rw (c.saturating_add-total.ensures, c.size.ensures, c.as_ref.ensures.value) (counted _ _ _ _ left)

pub size_of_entries-loop-item-preserved : goal.size_of_entries-loop-item-preserved
size_of_entries-loop-item-preserved t c =
    let m = map_of c.args.map.now in
    let left = rw (entries_size_at m.key m.value c.loop-item.item-index c.args.items.now c.item-item.result c.loop-item-test.true c.item-item.is) at c.loop-item.invariant.1 in
    rw (c.saturating_add-total.ensures, c.size_of_entry.ensures, c.as_ref.ensures.value) (counted _ _ _ _ left)

pub size_of_fields-loop-item-preserved : goal.size_of_fields-loop-item-preserved
size_of_fields-loop-item-preserved t c =
    let (values, types) = c.in-Some.ensures.steps in
    let left = rw (values, types) at c.loop-item.invariant.1 in
    rw (c.saturating_add-total.ensures, c.size.ensures, c.as_ref.ensures.value) (counted _ _ _ _ left)
