-- What is made of a part is a part of what is made, and a part that is refused refuses the whole.
use Rattle.std.proofs.Common.{◌≡◌, Some, Err, inl, inr, length, option_map, refl, sym, ap, ◌∙◌, add-one, arith, rules}
use Rattle.std.proofs.Math.ListN.{drop_of_length-le}
use Rattle.std.specs.Option.{option_copied}
use Rattle.vortex_dtype.specs.TypeOf.{map_of, type_of}
use Rattle.vortex_dtype.specs.declared.types.DType.{the_lemmas}
use Rattle.vortex_value.specs.Casts.{IsExtension}
use Rattle.vortex_value.specs.Steps.CastSteps.{IsBareTarget, each_to, entries_to, types_with}
use Rattle.vortex_value.specs.Values.RawOf.{value_trees, value_tree}
use Rattle.vortex_value.specs.Values.RawTree.{raw_union}
use Rattle.vortex_value.proofs.CastCode.{all_done, appended, cast_below, entry_at, fields_at, fields_end, flat_storage, no_entry, no_fields, no_value, none_more, pair_added, parts_at, passed_on, union_at, leaf_child, leaf_of, refused_as, some_union, one_added, passed_up}
use Rattle.vortex_value.specs.Values.Content.{content}
use Rattle.vortex_value.specs.declared.values.ScalarValue.{Tuple}
use Rattle.vortex_value.proofs.ValueSteps.{value_tree-Tuple}
use Rattle.vortex_value.proofs.cast.values.+cast.Goals as goal

-- elements

pub cast_elements-returns-in_err-push_to_storage : goal.cast_elements-returns-in_err-push_to_storage
cast_elements-returns-in_err-push_to_storage t c =
    let l = c.loop-element in
    let lent : option_copied c.as_ref.result ≡ c.element-item.result = search rules in
    let is : c.from_residual-in_err-push_to_storage.result ≡ Err c.in_err-push_to_storage.field-0.0 = search rules in
    let here = ap (λ vs. each_to (value_trees vs) (type_of c.args.from.now) (type_of c.args.to.now)) (parts_at c.args.elements.now l.element-index c.element-item.result c.loop-element-test.true c.element-item.is) in
    passed_on _ _ _ _ _ is (rw lent at c.in_err-push_to_storage.ensures) (λ none. none_more l.made.items _ _ _ _ l.invariant here none)

pub cast_elements-loop-element-preserved : goal.cast_elements-loop-element-preserved
cast_elements-loop-element-preserved t c =
    let l = c.loop-element in
    let lent : option_copied c.as_ref.result ≡ c.element-item.result = search rules in
    let here = ap (λ vs. each_to (value_trees vs) (type_of c.args.from.now) (type_of c.args.to.now)) (parts_at c.args.elements.now l.element-index c.element-item.result c.loop-element-test.true c.element-item.is) in
    rw add-one (one_added l.made.items c.push_to_storage.new.made.items _ _ _ _ l.invariant here (rw lent at c.in_ok-push_to_storage.ensures))

pub cast_elements-returns : goal.cast_elements-returns
cast_elements-returns t c =
    all_done c.loop-element.made.items _ _ c.loop-element.invariant
    (ap (λ vs. each_to (value_trees vs) (type_of c.args.from.now) (type_of c.args.to.now)) (drop_of_length-le c.args.elements.now c.loop-element-test.false))

-- maps

pub cast_entries-returns-in_err-push_entry : goal.cast_entries-returns-in_err-push_entry
cast_entries-returns-in_err-push_entry t c =
    let l = c.loop-entry in
    let lent : option_copied c.as_ref.result ≡ c.entry-item.result = search rules in
    let is : c.from_residual-in_err-push_entry.result ≡ Err c.in_err-push_entry.field-0.0 = search rules in
    let here = ap (λ vs. entries_to (value_trees vs) (map_of c.args.from.now) (map_of c.args.to.now)) (parts_at c.args.entries.now l.entry-index c.entry-item.result c.loop-entry-test.true c.entry-item.is) in
    passed_on _ _ _ _ _ is (rw lent at c.in_err-push_entry.ensures) (λ none. none_more l.made.items _ _ _ _ l.invariant here none)

pub cast_entries-loop-entry-preserved : goal.cast_entries-loop-entry-preserved
cast_entries-loop-entry-preserved t c =
    let l = c.loop-entry in
    let lent : option_copied c.as_ref.result ≡ c.entry-item.result = search rules in
    let here = ap (λ vs. entries_to (value_trees vs) (map_of c.args.from.now) (map_of c.args.to.now)) (parts_at c.args.entries.now l.entry-index c.entry-item.result c.loop-entry-test.true c.entry-item.is) in
    rw add-one (one_added l.made.items c.push_entry.new.made.items _ _ _ _ l.invariant here (rw lent at c.in_ok-push_entry.ensures))

pub cast_entries-returns : goal.cast_entries-returns
cast_entries-returns t c =
    all_done c.loop-entry.made.items _ _ c.loop-entry.invariant
    (ap (λ vs. entries_to (value_trees vs) (map_of c.args.from.now) (map_of c.args.to.now)) (drop_of_length-le c.args.entries.now c.loop-entry-test.false))

pub push_pair-returns-then-parts-ne2 : goal.push_pair-returns-then-parts-ne2
push_pair-returns-then-parts-ne2 t c = inr (refl, no_entry c.args.parts.now _ _ c.if-parts-ne2.true)

pub push_pair-returns-in_err-push_to_storage : goal.push_pair-returns-in_err-push_to_storage
push_pair-returns-in_err-push_to_storage t c =
    let xs = c.args.parts.now in
    let x = c.index-parts-0.result in
    let y = c.index-parts-1.result in
    let lent : option_copied c.as_ref-key.result ≡ c.index-parts-0.result = search rules in
    let is : c.from_residual-in_err-push_to_storage.result ≡ Err c.in_err-push_to_storage.field-0.0 = search rules in
    let at = entry_at xs x y (map_of c.args.from.now) (map_of c.args.to.now) c.if-parts-ne2.false c.index-parts-0.is c.index-parts-1.is in
    let refused = rw (lent, c.key_dtype.ensures.tree, c.key_dtype-2.ensures.tree) at c.in_err-push_to_storage.ensures in
    passed_up _ _ _ _ _ _ is refused (λ none. rw none at at)

pub push_pair-returns-in_err-push_to_storage-2 : goal.push_pair-returns-in_err-push_to_storage-2
push_pair-returns-in_err-push_to_storage-2 t c =
    let xs = c.args.parts.now in
    let x = c.index-parts-0.result in
    let y = c.index-parts-1.result in
    let lent : option_copied c.as_ref-value.result ≡ c.index-parts-1.result = search rules in
    let is : c.from_residual-in_err-push_to_storage-2.result ≡ Err c.in_err-push_to_storage-2.field-0.0 = search rules in
    let at = entry_at xs x y (map_of c.args.from.now) (map_of c.args.to.now) c.if-parts-ne2.false c.index-parts-0.is c.index-parts-1.is in
    let refused = rw (lent, c.value_dtype.ensures.tree, c.value_dtype-2.ensures.tree) at c.in_err-push_to_storage-2.ensures in
    passed_up _ _ _ _ _ _ is refused (λ none. (rw none at at) ∙ no_value _)

pub push_pair-returns : goal.push_pair-returns
push_pair-returns t c =
    let xs = c.args.parts.now in
    let x = c.index-parts-0.result in
    let y = c.index-parts-1.result in
    let pair = c.push_to_storage-2.new.made in
    let lent : option_copied c.as_ref-key.result ≡ x = search rules in
    let lent_value : option_copied c.as_ref-value.result ≡ y = search rules in
    let at = entry_at xs x y (map_of c.args.from.now) (map_of c.args.to.now) c.if-parts-ne2.false c.index-parts-0.is c.index-parts-1.is in
    let key = rw (lent, c.key_dtype.ensures.tree, c.key_dtype-2.ensures.tree) at c.in_ok-push_to_storage.ensures in
    let value = rw (lent_value, c.value_dtype.ensures.tree, c.value_dtype-2.ensures.tree) at c.in_ok-push_to_storage-2.ensures in
    let made = pair_added _ _ c.in_ok-pair.pair.items c.push_to_storage.new.made.items pair.items _ c.in_ok-pair.ensures.items key value at in
    appended _ _ (Some (Tuple pair)) _ c.push.result c.push.ensures (made ∙ ap Some (sym (value_tree-Tuple pair)))

-- structs

pub cast_fields-returns-then-fields-sources : goal.cast_fields-returns-then-fields-sources
cast_fields-returns-then-fields-sources t c = inr (refl, no_fields _ _ _ (λ h. c.if-fields-sources.true h.0))

pub cast_fields-returns-then-sources-targets : goal.cast_fields-returns-then-sources-targets
cast_fields-returns-then-sources-targets t c = inr (refl, no_fields _ _ _ (λ h. c.if-sources-targets.true h.1))

pub cast_fields-returns-in_err-push_part : goal.cast_fields-returns-in_err-push_part
cast_fields-returns-in_err-push_part t c =
    let steps = c.in-Some.ensures.steps in
    let lent : option_copied c.as_ref.result ≡ c.in-Some.field.now = search rules in
    let is : c.from_residual-in_err-push_part.result ≡ Err c.in_err-push_part.field-0.0 = search rules in
    let here = fields_at _ _ _ _ _ _ c.in-Some.field.now c.in-Some.source.now c.in-Some.target.now steps.0 steps.1.0 steps.1.1 in
    passed_on _ _ _ _ _ is (rw lent at c.in_err-push_part.ensures) (λ none. none_more c.loop-field.made.items _ _ _ _ c.loop-field.invariant.0 here none)

pub cast_fields-loop-field-preserved : goal.cast_fields-loop-field-preserved
cast_fields-loop-field-preserved t c =
    let steps = c.in-Some.ensures.steps in
    let lent : option_copied c.as_ref.result ≡ c.in-Some.field.now = search rules in
    let here = fields_at _ _ _ _ _ _ c.in-Some.field.now c.in-Some.source.now c.in-Some.target.now steps.0 steps.1.0 steps.1.1 in
    let more = one_added c.loop-field.made.items c.push_part.new.made.items _ _ _ _ c.loop-field.invariant.0 here (rw lent at c.in_ok-push_part.ensures) in
    (more, omega (arith, ap length steps.0, ap length steps.1.0), omega (arith, ap length steps.1.0, ap length steps.1.1))

pub cast_fields-returns : goal.cast_fields-returns
cast_fields-returns t c =
    let l = c.loop-field in
    let ended : length l.field-iterator.a.rest.now ≡ 0 =
    elim c.in-None.ensures.steps [ inl h ↦ h.1.0 | inr h ↦ elim h.1 [ inl k ↦ omega (arith, k.1.0) | inr k ↦ omega (arith, k.1.0) ] ] in
    all_done l.made.items _ _ l.invariant.0 (fields_end _ _ _ l.invariant.1 l.invariant.2 ended)

-- unions

pub cast_union-returns-in_err-child-in-Some-clause-made : goal.cast_union-returns-in_err-child-in-Some-clause-made
cast_union-returns-in_err-child-in-Some-clause-made t c =
    let u = c.args.union.now in
    let from = type_of c.in-Some.from.now in
    let to = type_of c.in-Some.to.now in
    let lent : option_copied c.as_deref.result ≡ option_map (λ b. b.value) u.child = search rules in
    let found : types_with u.type_id (type_of c.args.source.now) (type_of c.args.target.now) ≡ Some (from, to) = search rules in
    let is : c.from_residual.result ≡ Err c.in_err-child-in-Some.field-0.0 = search rules in
    let at = union_at u (type_of c.args.source.now) (type_of c.args.target.now) from to found in
    passed_on _ _ _ _ _ is (rw lent at c.in_err-child-in-Some.ensures.made) (λ none. at ∙ ap (option_map (raw_union u.type_id)) none)

pub cast_union-returns-in_ok-child-in-Some-clause-made : goal.cast_union-returns-in_ok-child-in-Some-clause-made
cast_union-returns-in_ok-child-in-Some-clause-made t c =
    let u = c.args.union.now in
    let from = type_of c.in-Some.from.now in
    let to = type_of c.in-Some.to.now in
    let lent : option_copied c.as_deref.result ≡ option_map (λ b. b.value) u.child = search rules in
    let found : types_with u.type_id (type_of c.args.source.now) (type_of c.args.target.now) ≡ Some (from, to) = search rules in
    let at = union_at u (type_of c.args.source.now) (type_of c.args.target.now) from to found in
    let child = rw lent at c.in_ok-child-in-Some.ensures.made in
    at ∙ ap (option_map (raw_union u.type_id)) child ∙ ap Some (sym c.union_of.ensures)

pub cast_union-returns-in_err-child-in-Some-clause-whole : goal.cast_union-returns-in_err-child-in-Some-clause-whole
cast_union-returns-in_err-child-in-Some-clause-whole t c = λ leaf.
    let u = c.args.union.now in
    let from = type_of c.in-Some.from.now in
    let to = type_of c.in-Some.to.now in
    let lent : option_copied c.as_deref.result ≡ option_map (λ b. b.value) u.child = search rules in
    let found : types_with u.type_id (type_of c.args.source.now) (type_of c.args.target.now) ≡ Some (from, to) = search rules in
    let is : c.from_residual.result ≡ Err c.in_err-child-in-Some.field-0.0 = search rules in
    let at = union_at u (type_of c.args.source.now) (type_of c.args.target.now) from to found in
    let whole = rw lent at c.in_err-child-in-Some.ensures.whole in
    refused_as _ _ _ is (λ memory. some_union u.type_id _ _ at (whole (inr (leaf_child u leaf)) memory))

-- below the extensions of the target

pub cast_present-returns-in_default : goal.cast_present-returns-in_default
cast_present-returns-in_default t c =
    let plain : ¬ (IsExtension (type_of c.args.source.now)) = search (rules, the_lemmas) in
    record {
      made = rw (cast_below c.args.value.now (type_of c.args.source.now) (type_of c.args.target.now) plain, ← c.storage_of.ensures) c.cast_by_kind.ensures.made;
      flat = λ flat. c.cast_by_kind.ensures.flat (rw c.storage_of.ensures (flat_storage (type_of c.args.target.now) flat));
      whole = λ taken.
          let leaf = leaf_of (type_of c.args.source.now) (content (value_tree c.args.value.now)) plain taken in
          rw (cast_below c.args.value.now (type_of c.args.source.now) (type_of c.args.target.now) plain, ← c.storage_of.ensures) (c.cast_by_kind.ensures.whole leaf);
    }

-- once the target's storage is known

pub push_to_storage-returns-in-Some-Some : goal.push_to_storage-returns-in-Some-Some
push_to_storage-returns-in-Some-Some t c =
    let s = type_of c.args.source.now in
    let u = type_of c.args.target.now in
    let bare : IsBareTarget s u (Some c.in-Some-Some.stored.now) = rw c.in-Some-Some.is-1 at c.requires in
    rw (c.in-Some-Some.is-0, cast_below c.in-Some-Some.value.now s u bare.0, ← bare.1) c.push_by_kind.ensures
