-- A breach of a part is one of the whole.
use Rattle.std.proofs.Common.{◌≡◌, ◌+◌, ◌∙◌, suc, None, drop, get_or, inl, inr, length, refl, sym, ap, ⊎_elim}
use Rattle.vortex_dtype.specs.TypeOf.{fields_of, map_of, type_of, dtype_trees}
use Rattle.vortex_dtype.specs.declared.error.Step.TheVariants.{Element, Entry, Field, Key, Value}
use Rattle.vortex_value.specs.Breaches.{breaches, breaches_of_entry, element_breaches, entry_breaches, field_breaches, under}
use Rattle.vortex_value.specs.Values.RawOf.{raw_of, value_trees}
use Rattle.vortex_value.proofs.ValidSteps.{elements_at, entries_at, entry_of, entry_with, no_entry, none_left, passed, refused, struct_breaches, Checks-part}
use Rattle.vortex_value.proofs.ValueSteps.{value_tree-Tuple}
use Rattle.vortex_dtype.specs.Lemmas.TypeLevels.{type_of-Struct}
use Rattle.vortex_value.proofs.validate.+validity.Goals as goal

pub check_parts-returns-then-not-check : goal.check_parts-returns-then-not-check
check_parts-returns-then-not-check t c =
    let path = c.args.trace.now.alloc in
    let e = type_of c.args.element.now in
    let i = c.loop-index.index in
    let items = c.args.items.now in
    let v = c.index-items-index.result in
    let fs = breaches e (raw_of v) in
    let part = refused path _ _ c.check.new.trace fs c.loop-index.invariant.alloc (rw c.as_ref.ensures.value at c.check.ensures) c.if-not-check.true in
    rw (c.loop-index.invariant.left, elements_at e i items v c.loop-index-test.true c.index-items-index.is)
    (Checks-part path c.refuse_in_part.result c.check.new.trace c.refuse_in_part.new.self (Element i) fs (element_breaches e (i + 1) (value_trees (drop (i + 1) items))) part (c.refuse_in_part.ensures path fs part))

pub check_entries-returns-then-not-check_entry : goal.check_entries-returns-then-not-check_entry
check_entries-returns-then-not-check_entry t c =
    let path = c.args.trace.now.alloc in
    let m = map_of c.args.map.now in
    let i = c.loop-index.index in
    let items = c.args.items.now in
    let v = c.index-items-index.result in
    let fs = breaches_of_entry m.key m.value (raw_of v) in
    let part = refused path _ _ c.check_entry.new.trace fs c.loop-index.invariant.alloc (rw c.as_ref.ensures.value at c.check_entry.ensures) c.if-not-check_entry.true in
    rw (c.loop-index.invariant.left, entries_at m.key m.value i items v c.loop-index-test.true c.index-items-index.is)
    (Checks-part path c.refuse_in_part.result c.check_entry.new.trace c.refuse_in_part.new.self (Entry i) fs (entry_breaches m.key m.value (i + 1) (value_trees (drop (i + 1) items))) part (c.refuse_in_part.ensures path fs part))

pub check_fields-returns-then-not-check : goal.check_fields-returns-then-not-check
check_fields-returns-then-not-check t c =
    let ((values, types), here, next, small) = c.in-Some.ensures.steps in
    let left = rw (values, types) at c.loop-index.invariant.left in
    let path = c.args.trace.now.alloc in
    let i = c.loop-index.index-iterator.count in
    let rest = c.next.new.self.iter in
    let fs = breaches (type_of c.in-Some.field.now) (raw_of c.in-Some.item.now) in
    let part = refused path _ _ c.check.new.trace fs c.loop-index.invariant.alloc (rw c.as_ref.ensures.value at c.check.ensures) c.if-not-check.true in
    rw (← left)
    (Checks-part path c.refuse_in_part.result c.check.new.trace c.refuse_in_part.new.self (Field i) fs (field_breaches (suc i) (dtype_trees rest.b.rest.now) (value_trees rest.a.rest.now)) part (rw here at (c.refuse_in_part.ensures path fs part)))

pub check_pair-returns-then-parts-ne2 : goal.check_pair-returns-then-parts-ne2
check_pair-returns-then-parts-ne2 t c =
    let m = map_of c.args.map.now in
    rw (no_entry m.key m.value c.args.parts.now c.if-parts-ne2.true) c.refuse.ensures

pub check_pair-returns-then-not-check : goal.check_pair-returns-then-not-check
check_pair-returns-then-not-check t c =
    let m = map_of c.args.map.now in
    let x = c.index-parts-0.result in
    let path = c.args.trace.now.alloc in
    let key = rw (c.as_ref.ensures.value, c.key_dtype.ensures.tree) at c.check.ensures in
    let part = refused path _ _ c.check.new.trace (breaches m.key (raw_of x)) refl key c.if-not-check.true in
    rw (entry_with m.key m.value c.args.parts.now x c.if-parts-ne2.false c.index-parts-0.is)
    (Checks-part path c.refuse_in_part.result c.check.new.trace c.refuse_in_part.new.self Key (breaches m.key (raw_of x)) (under Value (breaches m.value (raw_of (get_or c.args.parts.now 1 None)))) part (c.refuse_in_part.ensures path _ part))

pub check_pair-returns-then-check : goal.check_pair-returns-then-check
check_pair-returns-then-check t c =
    let m = map_of c.args.map.now in
    let x = c.index-parts-0.result in
    let y = c.index-parts-1.result in
    let path = c.args.trace.now.alloc in
    let key = rw (c.as_ref.ensures.value, c.key_dtype.ensures.tree) at c.check.ensures in
    let (same, none) = passed path path c.check.result c.check.new.trace (breaches m.key (raw_of x)) refl key c.if-not-check.false in
    let value = rw (c.as_ref-2.ensures.value, c.value_dtype.ensures.tree) at c.check-2.ensures in
    let (kept, all) = passed path _ c.check-2.result c.check-2.new.trace (breaches m.value (raw_of y)) same value c.if-check.true in
    rw (c.if-check.true, entry_of m.key m.value c.args.parts.now x y c.if-parts-ne2.false c.index-parts-0.is c.index-parts-1.is, none, all) (kept, refl)

pub check_pair-returns-else-check : goal.check_pair-returns-else-check
check_pair-returns-else-check t c =
    let m = map_of c.args.map.now in
    let x = c.index-parts-0.result in
    let y = c.index-parts-1.result in
    let path = c.args.trace.now.alloc in
    let key = rw (c.as_ref.ensures.value, c.key_dtype.ensures.tree) at c.check.ensures in
    let (same, none) = passed path path c.check.result c.check.new.trace (breaches m.key (raw_of x)) refl key c.if-not-check.false in
    let value = rw (c.as_ref-2.ensures.value, c.value_dtype.ensures.tree) at c.check-2.ensures in
    let part = refused path _ c.check-2.result c.check-2.new.trace (breaches m.value (raw_of y)) same value c.if-check.false in
    rw (entry_of m.key m.value c.args.parts.now x y c.if-parts-ne2.false c.index-parts-0.is c.index-parts-1.is, none) (c.refuse_in_part-else-check.ensures path (breaches m.value (raw_of y)) part)

pub check_fields-returns : goal.check_fields-returns
check_fields-returns t c =
    let at = c.loop-index.index-iterator in
    let ended = none_left at.count at.iter.b.rest.now at.iter.a.rest.now in
    let (last, count) = c.in-None.ensures.steps in
    (c.loop-index.invariant.alloc, sym c.loop-index.invariant.left ∙ ⊎_elim (λ a. ended (inl a.1.0)) (λ b. ended (inr b.1.0)) last)

pub check_value-returns-then-len-nfields : goal.check_value-returns-then-len-nfields
check_value-returns-then-len-nfields t c =
    let fields = c.in-Struct-Tuple.fields in
    let items = c.in-Struct-Tuple.items in
    let inside = c.deref-then-len-nfields.ensures in
    let lengths : length items.items ≡ length (fields_of fields).types = sym (ap length inside.value) ∙ inside.len ∙ sym c.len-in-Struct-Tuple.ensures ∙ c.if-len-nfields.true ∙ c.nfields.ensures in
    rw (← c.storage_of.ensures, c.in-Struct-Tuple.is-0, type_of-Struct fields c.in-Struct-Tuple.field-1-0, c.in-Struct-Tuple.is-1, value_tree-Tuple items, struct_breaches (fields_of fields) c.in-Struct-Tuple.field-1-0 c.dtypes.result.now items.items c.dtypes.ensures.trees lengths)
    (rw inside.value at c.check_fields.ensures)
