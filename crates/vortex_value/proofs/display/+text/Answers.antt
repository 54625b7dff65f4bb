-- Each loop writes the next of the texts that it joins.
use Rattle.std.proofs.Common.{◌≡◌, [], drop, codes, append_assoc, refl}
use Rattle.std.proofs.Output.{has_written_append}
use Rattle.std.proofs.lemmas.List.{drop_all}
use Rattle.vortex_dtype.specs.Lemmas.TypeLevels.{type_of-List, type_of-FixedSizeList, type_of-Map, type_of-Struct}
use Rattle.vortex_dtype.specs.TypeOf.{fields_of, map_of}
use Rattle.vortex_value.proofs.TextSteps.{child_behind, field_after_label, left_field, no_entry_text, no_field, no_values, pair_text, value_trees_at}
use Rattle.vortex_value.proofs.ValueSteps.{value_tree-Tuple, value_tree-Union, value_tree-Variant, variant_tree-parts, union_tree-child}
use Rattle.vortex_value.proofs.Writes.{has_written_none, left_all, left_none, left_part}
use Rattle.vortex_value.proofs.display.+text.Goals as goal

pub write_union-returns-in_default : goal.write_union-returns-in_default
write_union-returns-in_default g t c plain ok = has_written_none _ _ _ plain (rw union_tree-child (c.in_default.ensures.none _))

pub write_union-returns : goal.write_union-returns
write_union-returns g t c plain ok =
    let opened = c.in_ok-write_opening.ensures plain refl in
    let child = rw (child_behind c.args.union.now.child c.as_deref.result c.as_deref.ensures.cases) at (c.in_ok-write_part.ensures opened.plain refl) in
    let closed = c.write_str.ensures.writes child.plain ok in
    rw (union_tree-child, c.in-Some.ensures.some _, ← append_assoc c.in-Some.name.now (codes "(") _)
    (has_written_append _ _ _ _ _ _ opened (has_written_append _ _ _ _ _ _ child closed))

pub write_value-returns-in-Tuple : goal.write_value-returns-in-Tuple
write_value-returns-in-Tuple g t c plain ok = rw (c.in-Tuple.is, value_tree-Tuple, ← c.storage_of.ensures) (rw c.deref.ensures.value at (c.write_tuple.ensures plain ok))

pub write_pair-returns-then-parts-ne2 : goal.write_pair-returns-then-parts-ne2
write_pair-returns-then-parts-ne2 g t c plain ok =
    let m = map_of c.args.map.now in
    has_written_none _ _ _ plain (no_entry_text m.key m.value c.args.parts.now c.if-parts-ne2.true)

pub write_pair-returns : goal.write_pair-returns
write_pair-returns g t c plain ok =
    let m = map_of c.args.map.now in
    let x = c.index-parts-0.result in
    let y = c.index-parts-1.result in
    let key = c.in_ok-write_part.ensures plain refl in
    let colon = c.in_ok-write_str.ensures.writes key.plain refl in
    let value = c.write_part-2.ensures colon.plain ok in
    rw (pair_text m.key m.value c.args.parts.now x y c.if-parts-ne2.false c.index-parts-0.is c.index-parts-1.is)
    (has_written_append _ _ _ _ _ _ (rw (c.key_dtype.ensures.tree, c.as_ref.ensures.value) at key)
    (has_written_append _ _ _ _ _ _ colon (rw (c.value_dtype.ensures.tree, c.as_ref-2.ensures.value) at value)))

pub write_value-returns-in-Union : goal.write_value-returns-in-Union
write_value-returns-in-Union g t c plain ok = rw (c.in-Union.is, value_tree-Union, ← c.storage_of-in-Union.ensures) (c.write_union.ensures plain ok)

pub write_value-returns-in-Variant : goal.write_value-returns-in-Variant
write_value-returns-in-Variant g t c plain ok = rw (c.in-Variant.is, value_tree-Variant, variant_tree-parts) (rw c.deref-in-Variant.ensures at (c.write_inner.ensures plain ok))

pub write_part-returns-in-Some : goal.write_part-returns-in-Some
write_part-returns-in-Some g t c plain ok = rw c.in-Some.is (c.write_value.ensures plain ok)

pub write_tuple-returns-in-List : goal.write_tuple-returns-in-List
write_tuple-returns-in-List g t c plain ok = rw (c.in-List.is, type_of-List) (rw c.deref.ensures at (c.write_elements.ensures plain ok))

pub write_tuple-returns-in_ok-write-in-FixedSizeList : goal.write_tuple-returns-in_ok-write-in-FixedSizeList
write_tuple-returns-in_ok-write-in-FixedSizeList g t c plain ok =
    let sized = c.in_ok-write-in-FixedSizeList.ensures.writes plain refl in
    let elements = rw c.deref-in-FixedSizeList.ensures at (c.write_elements-in-FixedSizeList.ensures sized.plain ok) in
    rw (c.in-FixedSizeList.is, type_of-FixedSizeList) (has_written_append _ _ _ _ _ _ sized elements)

pub write_tuple-returns-in-Map : goal.write_tuple-returns-in-Map
write_tuple-returns-in-Map g t c plain ok = rw (c.in-Map.is, type_of-Map) (c.write_entries.ensures plain ok)

pub write_tuple-returns-in-Struct : goal.write_tuple-returns-in-Struct
write_tuple-returns-in-Struct g t c plain ok = rw (c.in-Struct.is, type_of-Struct) (c.write_fields.ensures plain ok)

pub write_inner-returns : goal.write_inner-returns
write_inner-returns g t c plain ok =
    let opened = c.in_ok-write_str.ensures.writes plain refl in
    let inside = rw c.as_ref.ensures.value at (c.in_ok-write_part.ensures opened.plain refl) in
    has_written_append _ _ _ _ _ _ opened (has_written_append _ _ _ _ _ _ inside (c.write_str-2.ensures.writes inside.plain ok))

pub write_elements-loop-index-init : goal.write_elements-loop-index-init
write_elements-loop-index-init g t c plain = left_all _ _ _ _ plain refl

pub write_entries-loop-index-init : goal.write_entries-loop-index-init
write_entries-loop-index-init g t c plain = left_all _ _ _ _ plain refl

pub write_elements-loop-index-preserved : goal.write_elements-loop-index-preserved
write_elements-loop-index-preserved g t c plain =
    let i = c.loop-index.index in
    let v = c.index-items-index.result in
    let left = rw (value_trees_at i c.args.items.now v c.loop-index-test.true c.index-items-index.is) at (c.loop-index.invariant plain) in
    let separator = c.in_ok-write_separator.ensures left.wrote.plain refl in
    let item = rw c.as_ref.ensures.value at (c.in_ok-write_part.ensures separator.plain refl) in
    left_part _ i _ _ _ _ (codes ", ") _ _ _ _ left separator refl item

pub write_elements-returns : goal.write_elements-returns
write_elements-returns g t c plain ok =
    let opened = c.in_ok-write_str.ensures.writes plain refl in
    let none : drop c.loop-index.index c.args.items.now ≡ [] = drop_all c.loop-index.index c.args.items.now c.loop-index-test.false in
    let all = left_none _ c.loop-index.index _ _ (codes ", ") _ _ (rw none refl) (c.loop-index.invariant opened.plain) in
    has_written_append _ _ _ _ _ _ opened (has_written_append _ _ _ _ _ _ all (c.write_str-2.ensures.writes all.plain ok))

pub write_entries-loop-index-preserved : goal.write_entries-loop-index-preserved
write_entries-loop-index-preserved g t c plain =
    let i = c.loop-index.index in
    let v = c.index-items-index.result in
    let left = rw (value_trees_at i c.args.items.now v c.loop-index-test.true c.index-items-index.is) at (c.loop-index.invariant plain) in
    let separator = c.in_ok-write_separator.ensures left.wrote.plain refl in
    let item = rw c.as_ref.ensures.value at (c.in_ok-write_entry.ensures separator.plain refl) in
    left_part _ i _ _ _ _ (codes ", ") _ _ _ _ left separator refl item

pub write_entries-returns : goal.write_entries-returns
write_entries-returns g t c plain ok =
    let opened = c.in_ok-write_str.ensures.writes plain refl in
    let none : drop c.loop-index.index c.args.items.now ≡ [] = drop_all c.loop-index.index c.args.items.now c.loop-index-test.false in
    let all = left_none _ c.loop-index.index _ _ (codes ", ") _ _ (rw none refl) (c.loop-index.invariant opened.plain) in
    has_written_append _ _ _ _ _ _ opened (has_written_append _ _ _ _ _ _ all (c.write_str-2.ensures.writes all.plain ok))

pub write_fields-loop-index-init : goal.write_fields-loop-index-init
write_fields-loop-index-init g t c plain = left_all _ _ _ _ plain refl

pub write_fields-loop-index-preserved : goal.write_fields-loop-index-preserved
write_fields-loop-index-preserved g t c plain =
    let all = fields_of c.args.fields.now in
    let v = c.index-items-index.result in
    let left = c.loop-index.invariant plain in
    let field = rw c.as_ref.ensures.value at (c.in_ok-write_field.ensures left.wrote.plain refl) in
    left_field _ c.loop-index.index all.names all.types c.args.items.now v _ _ _ _ c.loop-index-test.true c.index-items-index.is left field

pub write_fields-returns : goal.write_fields-returns
write_fields-returns g t c plain ok =
    let opened = c.in_ok-write_str.ensures.writes plain refl in
    let none : drop c.loop-index.index c.args.items.now ≡ [] = drop_all c.loop-index.index c.args.items.now c.loop-index-test.false in
    let all = left_none _ c.loop-index.index _ _ (codes ", ") _ _ (rw (none, no_values) refl) (c.loop-index.invariant opened.plain) in
    has_written_append _ _ _ _ _ _ opened (has_written_append _ _ _ _ _ _ all (c.write_str-2.ensures.writes all.plain ok))

pub write_field-returns-in_default : goal.write_field-returns-in_default
write_field-returns-in_default g t c plain ok = has_written_none _ _ _ plain (no_field _ _ _ _ c.in_default.ensures.none)

pub write_field-returns : goal.write_field-returns
write_field-returns g t c plain ok =
    let label = c.in_ok-write_label.ensures plain refl in
    rw (c.in-Some.ensures.some.0, c.in-Some.ensures.some.1, field_after_label) (has_written_append _ _ _ _ _ _ label (c.write_part.ensures label.plain ok))
