-- The parts of each loop, and the keys of each kind of type.
use Rattle.std.proofs.Common.{◌≡◌, ◌+◌, ◌-◌, suc, false, [], drop, Some as Present, refl, subst, sym, ap, ◌∙◌, arith}
use Rattle.vortex_dtype.specs.Lemmas.TypeLevels.{type_of-Bool, type_of-Primitive, type_of-Utf8, type_of-Binary}
use Rattle.vortex_dtype.specs.TypeOf.{as_type_trees, dtype_trees, map_of, type_of, variants_of}
use Rattle.vortex_dtype.specs.TypeTree.{bool_type, integer_type, utf8_type, binary_type, list_type, fixed_size_list_type, map_type, struct_type, no_types, type_then}
use Rattle.vortex_dtype.specs.declared.nullability.Nullability.TheVariants.{NonNullable}
use Rattle.vortex_value.specs.Validity.{EachValid, EntriesValid, FieldsValid, Valid}
use Rattle.vortex_value.specs.Values.RawOf.{raw_of, value_trees}
use Rattle.vortex_row.specs.Reading.{AreSized, HasRead, IsPresent, Refuses, entry_type, left}
use Rattle.vortex_row.proofs.InhabitedSteps.{bool-there, bytes-there, field-there, first-field, list-there, map-there, no_fields, none-told, number-there, sized-there, text-there}
use Rattle.vortex_row.proofs.PartSteps.{SoFar, fixed-tuple, list-tuple, map-tuple, present-read, refused, some_sized, struct-tuple, takes-each, takes-entry, takes-field, takes-sized}
use Rattle.vortex_row.proofs.RefusalSteps.{arm-one, arm-refused, child-refused, end-refused, extension-arm, head-refused, head-union_refused, id-refused, lacks-child, no-memory, one-field_told, optional-stuck, part-passed, part-refused, passed, puts-passed}
use Rattle.vortex_row.proofs.ValueSteps.{child-size, end-found, entry-stuck, extension-type, fields-from, fixed-type, head-missing, later-fields, list-type, map-type, more-sized, never-fields, never-sized, no-fields, none-each, none-entries, none-sized, part-stuck, pushed, read-shorter, so-far-next, so-far-start, some-field, struct-type, takes-field_at, union-type}
use Rattle.vortex_row.proofs.decode.values.+read.Goals as goal

pub read-returns-then-takes_null : goal.read-returns-then-takes_null
read-returns-then-takes_null t c = c.takes_null.ensures.taken c.if-takes_null.true

pub read-returns-in-Ok : goal.read-returns-in-Ok
read-returns-in-Ok t c = present-read _ _ _ _ _ (c.takes_null.ensures.unchanged c.if-takes_null.false) c.in-Ok.ensures

pub read-of_nullable-requires-clause-other : goal.read-of_nullable-requires-clause-other
read-of_nullable-requires-clause-other t c = λ n bs e. c.takes_null.ensures.other c.if-takes_null.false n bs (sym (c.takes_null.ensures.unchanged c.if-takes_null.false) ∙ e)

pub read-returns-in-Err : goal.read-returns-in-Err
read-returns-in-Err t c =
    subst (λ xs. Refuses (Valid (type_of c.args.dtype.now)) c.of_nullable.result xs (left c.of_nullable.new.reader)) (c.takes_null.ensures.unchanged c.if-takes_null.false) c.of_nullable.ensures

pub read_value-returns-in_err-read_truth-in-Bool : goal.read_value-returns-in_err-read_truth-in-Bool
read_value-returns-in_err-read_truth-in-Bool t c =
    let e : type_of c.args.dtype.now ≡ bool_type c.in-Bool.field-0 = ap type_of c.in-Bool.is ∙ type_of-Bool c.in-Bool.field-0 in
    arm-refused _ _ _ _ _ _ _ e c.from_residual.ensures (bool-there c.args.dtype.now c.in-Bool.field-0 c.in-Bool.is) c.in_err-read_truth-in-Bool.ensures

pub read_value-returns-in_err-read_primitive-in-Primitive : goal.read_value-returns-in_err-read_primitive-in-Primitive
read_value-returns-in_err-read_primitive-in-Primitive t c =
    let e : type_of c.args.dtype.now ≡ integer_type c.in-Primitive.ptype c.in-Primitive.field-1 = ap type_of c.in-Primitive.is ∙ type_of-Primitive c.in-Primitive.ptype c.in-Primitive.field-1 in
    arm-refused _ _ _ _ _ _ _ e c.from_residual-in_err-read_primitive-in-Primitive.ensures (number-there c.args.dtype.now c.in-Primitive.ptype c.in-Primitive.field-1 c.in-Primitive.is) c.in_err-read_primitive-in-Primitive.ensures

pub read_value-returns-in_err-read_utf8-in-Utf8 : goal.read_value-returns-in_err-read_utf8-in-Utf8
read_value-returns-in_err-read_utf8-in-Utf8 t c =
    let e : type_of c.args.dtype.now ≡ utf8_type c.in-Utf8.field-0 = ap type_of c.in-Utf8.is ∙ type_of-Utf8 c.in-Utf8.field-0 in
    arm-refused _ _ _ _ _ _ _ e c.from_residual-in_err-read_utf8-in-Utf8.ensures (text-there c.args.dtype.now c.in-Utf8.field-0 c.in-Utf8.is) c.in_err-read_utf8-in-Utf8.ensures

pub read_value-returns-in_err-read_binary-in-Binary : goal.read_value-returns-in_err-read_binary-in-Binary
read_value-returns-in_err-read_binary-in-Binary t c =
    let e : type_of c.args.dtype.now ≡ binary_type c.in-Binary.field-0 = ap type_of c.in-Binary.is ∙ type_of-Binary c.in-Binary.field-0 in
    arm-refused _ _ _ _ _ _ _ e c.from_residual-in_err-read_binary-in-Binary.ensures (bytes-there c.args.dtype.now c.in-Binary.field-0 c.in-Binary.is) c.in_err-read_binary-in-Binary.ensures

pub read_value-returns-in_err-read_list-in-List : goal.read_value-returns-in_err-read_list-in-List
read_value-returns-in_err-read_list-in-List t c =
    arm-refused _ _ _ _ _ _ _ (list-type c.args.dtype.now c.deref.result.now c.in-List.element c.in-List.field-1 c.in-List.is c.deref.ensures) c.from_residual-in_err-read_list-in-List.ensures (list-there c.args.dtype.now c.in-List.element c.in-List.field-1 c.in-List.is) c.in_err-read_list-in-List.ensures

pub read_value-returns-in_err-read_map-in-Map : goal.read_value-returns-in_err-read_map-in-Map
read_value-returns-in_err-read_map-in-Map t c =
    arm-refused _ _ _ _ _ _ _ (map-type c.args.dtype.now c.in-Map.map c.in-Map.field-1 c.in-Map.is) c.from_residual-in_err-read_map-in-Map.ensures (map-there c.args.dtype.now c.in-Map.map c.in-Map.field-1 c.in-Map.is) c.in_err-read_map-in-Map.ensures

pub read_value-returns-in-FixedSizeList : goal.read_value-returns-in-FixedSizeList
read_value-returns-in-FixedSizeList t c =
    arm-one _ _ _ _ _ _ (fixed-type c.args.dtype.now c.deref-in-FixedSizeList.result.now c.in-FixedSizeList.element c.in-FixedSizeList.size c.in-FixedSizeList.field-2 c.in-FixedSizeList.is c.deref-in-FixedSizeList.ensures) c.read_fixed.ensures

pub read_value-returns-in-Struct : goal.read_value-returns-in-Struct
read_value-returns-in-Struct t c = arm-one _ _ _ _ _ _ (struct-type c.args.dtype.now c.in-Struct.fields c.dtypes.result.now c.in-Struct.field-1 c.in-Struct.is c.dtypes.ensures.trees) c.read_struct.ensures

pub read_value-returns-in-Union : goal.read_value-returns-in-Union
read_value-returns-in-Union t c = arm-one _ _ _ _ _ _ (union-type c.args.dtype.now c.in-Union.variants c.in-Union.field-1 c.in-Union.is) c.read_union.ensures

pub read_value-returns-in-Extension : goal.read_value-returns-in-Extension
read_value-returns-in-Extension t c =
    extension-arm _ _ _ _ _ _ _ _ (extension-type c.args.dtype.now c.in-Extension.extension c.storage_dtype.result.now c.in-Extension.is c.storage_dtype.ensures.tree) c.read_value.ensures

pub read_value-returns-in-Null : goal.read_value-returns-in-Null
read_value-returns-in-Null t c = none-told c.args.dtype.now c.in-Null.is

pub read_list-returns-in_err-take : goal.read_list-returns-in_err-take
read_list-returns-in_err-take t c =
    refused _ _ _ _ _ _ c.from_residual.ensures (λ bad. head-missing (list_type (type_of c.args.element.now) NonNullable) (EachValid (type_of c.args.element.now)) _ _ (list-tuple (type_of c.args.element.now)) c.in_err-take.ensures.0 c.in_err-take.ensures.1)

pub read_list-returns-in_err-push_element : goal.read_list-returns-in_err-push_element
read_list-returns-in_err-push_element t c =
    refused _ _ _ _ _ _ c.from_residual-in_err-push_element.ensures (λ bad.
    part-stuck (list_type (type_of c.args.element.now) NonNullable) (EachValid (type_of c.args.element.now)) (Valid (type_of c.args.element.now)) (EachValid (type_of c.args.element.now)) (EachValid (type_of c.args.element.now)) (value_trees c.loop-alloc.parts.items) _ _ _ _ _ (list-tuple (type_of c.args.element.now))
    c.in_ok-take.ensures c.loop-alloc.invariant (c.takes.ensures.unchanged c.loop-alloc-test.true) (none-each (type_of c.args.element.now)) (none-each (type_of c.args.element.now)) (none-each (type_of c.args.element.now)) (takes-each (type_of c.args.element.now))
    (λ none. c.takes.ensures.other c.loop-alloc-test.true) (c.in_err-push_element.ensures bad))

pub read_list-loop-alloc-init : goal.read_list-loop-alloc-init
read_list-loop-alloc-init t c = so-far-start (EachValid (type_of c.args.element.now)) _ _ c.new-parts.ensures.items

pub read_list-loop-alloc-preserved : goal.read_list-loop-alloc-preserved
read_list-loop-alloc-preserved t c =
    so-far-next (EachValid (type_of c.args.element.now)) (Valid (type_of c.args.element.now)) (EachValid (type_of c.args.element.now)) (EachValid (type_of c.args.element.now)) c.loop-alloc.parts.items _ c.in_ok-push_element.ensures.0 _ _ _ _ c.loop-alloc.invariant (c.takes.ensures.unchanged c.loop-alloc-test.true) (takes-each (type_of c.args.element.now))
    c.in_ok-push_element.ensures.2 c.in_ok-push_element.ensures.1

pub read_list-loop-alloc-smaller : goal.read_list-loop-alloc-smaller
read_list-loop-alloc-smaller t c = read-shorter (Valid (type_of c.args.element.now)) _ _ _ _ (c.takes.ensures.unchanged c.loop-alloc-test.true) c.in_ok-push_element.ensures.2

pub read_list-returns : goal.read_list-returns
read_list-returns t c =
    end-found (list_type (type_of c.args.element.now) NonNullable) (EachValid (type_of c.args.element.now)) (EachValid (type_of c.args.element.now)) c.loop-alloc.parts _ _ _ _ (list-tuple (type_of c.args.element.now)) c.in_ok-take.ensures c.loop-alloc.invariant tt (c.takes.ensures.taken c.loop-alloc-test.false)

pub read_fixed-returns-then-not-takes : goal.read_fixed-returns-then-not-takes
read_fixed-returns-then-not-takes t c = head-refused c.has_sized.result c.bad_or_none.result (fixed_size_list_type (type_of c.args.element.now) c.args.size NonNullable) (AreSized c.args.size (type_of c.args.element.now)) _ _ (fixed-tuple (type_of c.args.element.now) c.args.size) c.bad_or_none.ensures c.has_sized.ensures (c.takes.ensures.unchanged c.if-not-takes.true) (c.takes.ensures.other c.if-not-takes.true)

pub read_fixed-returns-in_err-push_next : goal.read_fixed-returns-in_err-push_next
read_fixed-returns-in_err-push_next t c =
    let one : c.args.size - c.loop-place.place ≡ suc (c.args.size - (c.loop-place.place + 1)) = let less = c.loop-place-test.true in omega arith in
    passed _ _ _ _ _ _ c.from_residual.ensures
    (part-passed (fixed_size_list_type (type_of c.args.element.now) c.args.size NonNullable) (AreSized c.args.size (type_of c.args.element.now)) (Valid (type_of c.args.element.now)) (AreSized (c.args.size - c.loop-place.place) (type_of c.args.element.now)) (AreSized (c.args.size - (c.loop-place.place + 1)) (type_of c.args.element.now)) (value_trees c.loop-place.parts.items) _ _ _ _ _ (fixed-tuple (type_of c.args.element.now) c.args.size) (c.takes.ensures.taken c.if-not-takes.false) c.loop-place.invariant refl (takes-sized (c.args.size - c.loop-place.place) (c.args.size - (c.loop-place.place + 1)) (type_of c.args.element.now) one)
    (λ none. absurd (more-sized (c.args.size - c.loop-place.place) (type_of c.args.element.now) (omega arith) none)) _ (sized-there c.args.size (type_of c.args.element.now) (omega arith)) (λ h. some_sized (c.args.size - (c.loop-place.place + 1)) (type_of c.args.element.now) h.0 h.1) c.in_err-push_next.ensures)

pub read_fixed-loop-place-init : goal.read_fixed-loop-place-init
read_fixed-loop-place-init t c =
    let all : c.args.size ≡ c.args.size - 0 = omega arith in
    subst (λ n. SoFar (AreSized c.args.size (type_of c.args.element.now)) (value_trees c.new-parts.result.items) (left c.takes.new.self) (AreSized n (type_of c.args.element.now)) (left c.takes.new.self)) all (so-far-start (AreSized c.args.size (type_of c.args.element.now)) _ _ c.new-parts.ensures.items)

pub read_fixed-loop-place-preserved : goal.read_fixed-loop-place-preserved
read_fixed-loop-place-preserved t c =
    let one : c.args.size - c.loop-place.place ≡ suc (c.args.size - (c.loop-place.place + 1)) = let less = c.loop-place-test.true in omega arith in
    so-far-next (AreSized c.args.size (type_of c.args.element.now)) (Valid (type_of c.args.element.now)) (AreSized (c.args.size - c.loop-place.place) (type_of c.args.element.now)) (AreSized (c.args.size - (c.loop-place.place + 1)) (type_of c.args.element.now)) c.loop-place.parts.items _ c.in_ok-push_next.ensures.0 _ _ _ _ c.loop-place.invariant refl (takes-sized (c.args.size - c.loop-place.place) (c.args.size - (c.loop-place.place + 1)) (type_of c.args.element.now) one)
    c.in_ok-push_next.ensures.2 c.in_ok-push_next.ensures.1

pub read_fixed-returns-in_err-take : goal.read_fixed-returns-in_err-take
read_fixed-returns-in_err-take t c =
    let none : c.args.size - c.loop-place.place ≡ 0 = let past = c.loop-place-test.false in omega arith in
    passed _ _ _ _ _ _ c.from_residual-in_err-take.ensures
    (end-refused (fixed_size_list_type (type_of c.args.element.now) c.args.size NonNullable) (AreSized c.args.size (type_of c.args.element.now)) (AreSized (c.args.size - c.loop-place.place) (type_of c.args.element.now)) (value_trees c.loop-place.parts.items) _ _ _ _ _ (fixed-tuple (type_of c.args.element.now) c.args.size) (c.takes.ensures.taken c.if-not-takes.false) c.loop-place.invariant c.in_err-take.ensures.0 (none-sized (c.args.size - c.loop-place.place) (type_of c.args.element.now) none) (never-sized (c.args.size - c.loop-place.place) (type_of c.args.element.now) none) c.in_err-take.ensures.1)

pub read_fixed-returns : goal.read_fixed-returns
read_fixed-returns t c =
    let none : c.args.size - c.loop-place.place ≡ 0 = let past = c.loop-place-test.false in omega arith in
    end-found (fixed_size_list_type (type_of c.args.element.now) c.args.size NonNullable) (AreSized c.args.size (type_of c.args.element.now)) (AreSized (c.args.size - c.loop-place.place) (type_of c.args.element.now)) c.loop-place.parts _ _ _ _ (fixed-tuple (type_of c.args.element.now) c.args.size) (c.takes.ensures.taken c.if-not-takes.false) c.loop-place.invariant (none-sized (c.args.size - c.loop-place.place) (type_of c.args.element.now) none) c.in_ok-take.ensures

pub read_map-returns-in_err-take : goal.read_map-returns-in_err-take
read_map-returns-in_err-take t c =
    refused _ _ _ _ _ _ c.from_residual.ensures (λ bad. head-missing (map_type (map_of c.args.map.now).key (map_of c.args.map.now).value false NonNullable) (EntriesValid (map_of c.args.map.now).key (map_of c.args.map.now).value) _ _ (map-tuple (map_of c.args.map.now).key (map_of c.args.map.now).value) c.in_err-take.ensures.0 c.in_err-take.ensures.1)

pub read_map-returns-in_err-push_entry : goal.read_map-returns-in_err-push_entry
read_map-returns-in_err-push_entry t c =
    refused _ _ _ _ _ _ c.from_residual-in_err-push_entry.ensures (λ bad.
    part-stuck (map_type (map_of c.args.map.now).key (map_of c.args.map.now).value false NonNullable) (EntriesValid (map_of c.args.map.now).key (map_of c.args.map.now).value) (Valid (entry_type (map_of c.args.map.now).key (map_of c.args.map.now).value)) (EntriesValid (map_of c.args.map.now).key (map_of c.args.map.now).value) (EntriesValid (map_of c.args.map.now).key (map_of c.args.map.now).value) (value_trees c.loop-alloc.parts.items) _ _ _ _ _ (map-tuple (map_of c.args.map.now).key (map_of c.args.map.now).value)
    c.in_ok-take.ensures c.loop-alloc.invariant (c.takes.ensures.unchanged c.loop-alloc-test.true) (none-entries (map_of c.args.map.now).key (map_of c.args.map.now).value) (none-entries (map_of c.args.map.now).key (map_of c.args.map.now).value) (none-entries (map_of c.args.map.now).key (map_of c.args.map.now).value) (takes-entry (map_of c.args.map.now).key (map_of c.args.map.now).value)
    (λ none. c.takes.ensures.other c.loop-alloc-test.true) (c.in_err-push_entry.ensures bad))

pub read_map-loop-alloc-init : goal.read_map-loop-alloc-init
read_map-loop-alloc-init t c = so-far-start (EntriesValid (map_of c.args.map.now).key (map_of c.args.map.now).value) _ _ c.new-parts.ensures.items

pub read_map-loop-alloc-preserved : goal.read_map-loop-alloc-preserved
read_map-loop-alloc-preserved t c =
    so-far-next (EntriesValid (map_of c.args.map.now).key (map_of c.args.map.now).value) (Valid (entry_type (map_of c.args.map.now).key (map_of c.args.map.now).value)) (EntriesValid (map_of c.args.map.now).key (map_of c.args.map.now).value) (EntriesValid (map_of c.args.map.now).key (map_of c.args.map.now).value) c.loop-alloc.parts.items _ c.in_ok-push_entry.ensures.0 _ _ _ _ c.loop-alloc.invariant (c.takes.ensures.unchanged c.loop-alloc-test.true) (takes-entry (map_of c.args.map.now).key (map_of c.args.map.now).value)
    c.in_ok-push_entry.ensures.2 c.in_ok-push_entry.ensures.1

pub read_map-loop-alloc-smaller : goal.read_map-loop-alloc-smaller
read_map-loop-alloc-smaller t c = read-shorter (Valid (entry_type (map_of c.args.map.now).key (map_of c.args.map.now).value)) _ _ _ _ (c.takes.ensures.unchanged c.loop-alloc-test.true) c.in_ok-push_entry.ensures.2

pub read_map-returns : goal.read_map-returns
read_map-returns t c =
    end-found (map_type (map_of c.args.map.now).key (map_of c.args.map.now).value false NonNullable) (EntriesValid (map_of c.args.map.now).key (map_of c.args.map.now).value) (EntriesValid (map_of c.args.map.now).key (map_of c.args.map.now).value) c.loop-alloc.parts _ _ _ _ (map-tuple (map_of c.args.map.now).key (map_of c.args.map.now).value) c.in_ok-take.ensures c.loop-alloc.invariant tt (c.takes.ensures.taken c.loop-alloc-test.false)

pub push_entry-returns-in-Ok : goal.push_entry-returns-in-Ok
push_entry-returns-in-Ok t c = pushed _ _ _ _ (Present c.in-Ok.entry) _ _ (present-read (entry_type (map_of c.args.map.now).key (map_of c.args.map.now).value) _ _ _ _ refl c.in-Ok.ensures) c.push.ensures

pub push_entry-returns-in-Err : goal.push_entry-returns-in-Err
push_entry-returns-in-Err t c =
    λ bad. entry-stuck (map_of c.args.map.now).key (map_of c.args.map.now).value _ _ (optional-stuck (IsPresent (entry_type (map_of c.args.map.now).key (map_of c.args.map.now).value)) c.in-Err.error c.of_optional.result _ _ _ c.in-Err.ensures c.of_optional.ensures bad)

pub read_entry-returns-then-not-takes : goal.read_entry-returns-then-not-takes
read_entry-returns-then-not-takes t c = head-refused c.has_entry.result c.bad_or_none.result (entry_type (map_of c.args.map.now).key (map_of c.args.map.now).value) (FieldsValid (type_then (map_of c.args.map.now).key (type_then (map_of c.args.map.now).value no_types))) _ _ (struct-tuple (type_then (map_of c.args.map.now).key (type_then (map_of c.args.map.now).value no_types))) c.bad_or_none.ensures c.has_entry.ensures (c.takes.ensures.unchanged c.if-not-takes.true) (c.takes.ensures.other c.if-not-takes.true)

pub read_entry-returns-in-Err : goal.read_entry-returns-in-Err
read_entry-returns-in-Err t c =
    let key = subst (λ t. Refuses (Valid t) c.in-Err.error (left c.takes.new.self) (left c.push_next.new.reader)) c.key_dtype.ensures.tree c.in-Err.ensures in
    part-refused (entry_type (map_of c.args.map.now).key (map_of c.args.map.now).value) (FieldsValid (type_then (map_of c.args.map.now).key (type_then (map_of c.args.map.now).value no_types))) (Valid (map_of c.args.map.now).key) (FieldsValid (type_then (map_of c.args.map.now).key (type_then (map_of c.args.map.now).value no_types))) (FieldsValid (type_then (map_of c.args.map.now).value no_types)) (value_trees c.new-parts.result.items) _ _ _ _ _ (struct-tuple (type_then (map_of c.args.map.now).key (type_then (map_of c.args.map.now).value no_types))) (c.takes.ensures.taken c.if-not-takes.false) (so-far-start (FieldsValid (type_then (map_of c.args.map.now).key (type_then (map_of c.args.map.now).value no_types))) _ _ c.new-parts.ensures.items) refl (takes-field (map_of c.args.map.now).key (type_then (map_of c.args.map.now).value no_types)) (λ none. absurd none)
    c.in-Err.error c.has_value.result c.of_whole.result (first-field (map_of c.args.map.now).key (type_then (map_of c.args.map.now).value no_types)) (later-fields (map_of c.args.map.now).key (type_then (map_of c.args.map.now).value no_types)) (one-field_told _ _ _ c.value_dtype.ensures.tree c.has_value.ensures) key c.of_whole.ensures

pub read_entry-returns-in_err-push_next : goal.read_entry-returns-in_err-push_next
read_entry-returns-in_err-push_next t c =
    let key = subst (λ t. HasRead (Valid t) (raw_of c.in_default.ensures.0) (left c.takes.new.self) (left c.push_next.new.reader)) c.key_dtype.ensures.tree c.in_default.ensures.2 in
    let value = subst (λ t. Refuses (Valid t) c.in_err-push_next.field-0.0 (left c.push_next.new.reader) (left c.push_next-2.new.reader)) c.value_dtype-2.ensures.tree c.in_err-push_next.ensures in
    passed _ _ _ _ _ _ c.from_residual.ensures
    (part-passed (entry_type (map_of c.args.map.now).key (map_of c.args.map.now).value) (FieldsValid (type_then (map_of c.args.map.now).key (type_then (map_of c.args.map.now).value no_types))) (Valid (map_of c.args.map.now).value) (FieldsValid (type_then (map_of c.args.map.now).value no_types)) (FieldsValid no_types) _ _ _ _ _ _ (struct-tuple (type_then (map_of c.args.map.now).key (type_then (map_of c.args.map.now).value no_types))) (c.takes.ensures.taken c.if-not-takes.false) (so-far-next (FieldsValid (type_then (map_of c.args.map.now).key (type_then (map_of c.args.map.now).value no_types))) (Valid (map_of c.args.map.now).key) (FieldsValid (type_then (map_of c.args.map.now).key (type_then (map_of c.args.map.now).value no_types))) (FieldsValid (type_then (map_of c.args.map.now).value no_types)) c.new-parts.result.items _ c.in_default.ensures.0 _ _ _ _ (so-far-start (FieldsValid (type_then (map_of c.args.map.now).key (type_then (map_of c.args.map.now).value no_types))) _ _ c.new-parts.ensures.items) refl (takes-field (map_of c.args.map.now).key (type_then (map_of c.args.map.now).value no_types)) key c.in_default.ensures.1) refl (takes-field (map_of c.args.map.now).value no_types) (λ none. absurd none)
    _ (λ h. first-field (map_of c.args.map.now).value no_types (later-fields (map_of c.args.map.now).key (type_then (map_of c.args.map.now).value no_types) h)) (λ h. no_fields) value)

pub read_entry-returns-in_err-take : goal.read_entry-returns-in_err-take
read_entry-returns-in_err-take t c =
    let key = subst (λ t. HasRead (Valid t) (raw_of c.in_default.ensures.0) (left c.takes.new.self) (left c.push_next.new.reader)) c.key_dtype.ensures.tree c.in_default.ensures.2 in
    let value = subst (λ t. HasRead (Valid t) (raw_of c.in_ok-push_next.ensures.0) (left c.push_next.new.reader) (left c.push_next-2.new.reader)) c.value_dtype-2.ensures.tree c.in_ok-push_next.ensures.2 in
    passed _ _ _ _ _ _ c.from_residual-in_err-take.ensures
    (end-refused (entry_type (map_of c.args.map.now).key (map_of c.args.map.now).value) (FieldsValid (type_then (map_of c.args.map.now).key (type_then (map_of c.args.map.now).value no_types))) (FieldsValid no_types) _ _ _ _ _ _ (struct-tuple (type_then (map_of c.args.map.now).key (type_then (map_of c.args.map.now).value no_types))) (c.takes.ensures.taken c.if-not-takes.false) (so-far-next (FieldsValid (type_then (map_of c.args.map.now).key (type_then (map_of c.args.map.now).value no_types))) (Valid (map_of c.args.map.now).value) (FieldsValid (type_then (map_of c.args.map.now).value no_types)) (FieldsValid no_types) _ _ c.in_ok-push_next.ensures.0 _ _ _ _ (so-far-next (FieldsValid (type_then (map_of c.args.map.now).key (type_then (map_of c.args.map.now).value no_types))) (Valid (map_of c.args.map.now).key) (FieldsValid (type_then (map_of c.args.map.now).key (type_then (map_of c.args.map.now).value no_types))) (FieldsValid (type_then (map_of c.args.map.now).value no_types)) c.new-parts.result.items _ c.in_default.ensures.0 _ _ _ _ (so-far-start (FieldsValid (type_then (map_of c.args.map.now).key (type_then (map_of c.args.map.now).value no_types))) _ _ c.new-parts.ensures.items) refl (takes-field (map_of c.args.map.now).key (type_then (map_of c.args.map.now).value no_types)) key c.in_default.ensures.1) refl (takes-field (map_of c.args.map.now).value no_types) value c.in_ok-push_next.ensures.1) c.in_err-take.ensures.0 tt (λ v ws none. none) c.in_err-take.ensures.1)

pub read_entry-returns : goal.read_entry-returns
read_entry-returns t c =
    let key = subst (λ t. HasRead (Valid t) (raw_of c.in_default.ensures.0) (left c.takes.new.self) (left c.push_next.new.reader)) c.key_dtype.ensures.tree c.in_default.ensures.2 in
    let value = subst (λ t. HasRead (Valid t) (raw_of c.in_ok-push_next.ensures.0) (left c.push_next.new.reader) (left c.push_next-2.new.reader)) c.value_dtype-2.ensures.tree c.in_ok-push_next.ensures.2 in
    end-found (entry_type (map_of c.args.map.now).key (map_of c.args.map.now).value) (FieldsValid (type_then (map_of c.args.map.now).key (type_then (map_of c.args.map.now).value no_types))) (FieldsValid no_types) c.push_next-2.new.parts _ _ _ _ (struct-tuple (type_then (map_of c.args.map.now).key (type_then (map_of c.args.map.now).value no_types))) (c.takes.ensures.taken c.if-not-takes.false) (so-far-next (FieldsValid (type_then (map_of c.args.map.now).key (type_then (map_of c.args.map.now).value no_types))) (Valid (map_of c.args.map.now).value) (FieldsValid (type_then (map_of c.args.map.now).value no_types)) (FieldsValid no_types) _ _ c.in_ok-push_next.ensures.0 _ _ _ _ (so-far-next (FieldsValid (type_then (map_of c.args.map.now).key (type_then (map_of c.args.map.now).value no_types))) (Valid (map_of c.args.map.now).key) (FieldsValid (type_then (map_of c.args.map.now).key (type_then (map_of c.args.map.now).value no_types))) (FieldsValid (type_then (map_of c.args.map.now).value no_types)) c.new-parts.result.items _ c.in_default.ensures.0 _ _ _ _ (so-far-start (FieldsValid (type_then (map_of c.args.map.now).key (type_then (map_of c.args.map.now).value no_types))) _ _ c.new-parts.ensures.items) refl (takes-field (map_of c.args.map.now).key (type_then (map_of c.args.map.now).value no_types)) key c.in_default.ensures.1) refl (takes-field (map_of c.args.map.now).value no_types) value c.in_ok-push_next.ensures.1) tt c.in_ok-take.ensures

pub read_struct-returns-then-not-takes : goal.read_struct-returns-then-not-takes
read_struct-returns-then-not-takes t c = head-refused c.have_values.result c.bad_or_none.result (struct_type [] (dtype_trees c.args.dtypes.now) NonNullable) (FieldsValid (dtype_trees c.args.dtypes.now)) _ _ (struct-tuple (dtype_trees c.args.dtypes.now)) c.bad_or_none.ensures c.have_values.ensures (c.takes.ensures.unchanged c.if-not-takes.true) (c.takes.ensures.other c.if-not-takes.true)

pub read_struct-returns-in-Err : goal.read_struct-returns-in-Err
read_struct-returns-in-Err t c =
    part-refused (struct_type [] (dtype_trees c.args.dtypes.now) NonNullable) (FieldsValid (dtype_trees c.args.dtypes.now)) (Valid (type_of c.index-dtypes-index.result)) (FieldsValid (dtype_trees (drop c.loop-index.index c.args.dtypes.now))) (FieldsValid (dtype_trees (drop (c.loop-index.index + 1) c.args.dtypes.now))) (value_trees c.loop-index.parts.items) _ _ _ _ _ (struct-tuple (dtype_trees c.args.dtypes.now)) (c.takes.ensures.taken c.if-not-takes.false) c.loop-index.invariant refl
    (takes-field_at c.loop-index.index c.args.dtypes.now c.index-dtypes-index.result c.loop-index-test.true c.index-dtypes-index.is) (λ none. absurd (some-field c.loop-index.index c.args.dtypes.now c.index-dtypes-index.result c.loop-index-test.true c.index-dtypes-index.is none)) c.in-Err.error c.of_struct.ensures.0 c.of_struct.result (field-there c.loop-index.index c.args.dtypes.now c.index-dtypes-index.result c.loop-index-test.true c.index-dtypes-index.is) (fields-from (c.loop-index.index + 1) c.args.dtypes.now) c.of_struct.ensures.2 c.in-Err.ensures c.of_struct.ensures.1

pub read_struct-loop-index-init : goal.read_struct-loop-index-init
read_struct-loop-index-init t c = so-far-start (FieldsValid (dtype_trees c.args.dtypes.now)) _ _ c.new-parts.ensures.items

pub read_struct-loop-index-preserved : goal.read_struct-loop-index-preserved
read_struct-loop-index-preserved t c =
    so-far-next (FieldsValid (dtype_trees c.args.dtypes.now)) (Valid (type_of c.index-dtypes-index.result)) (FieldsValid (dtype_trees (drop c.loop-index.index c.args.dtypes.now))) (FieldsValid (dtype_trees (drop (c.loop-index.index + 1) c.args.dtypes.now))) c.loop-index.parts.items _ c.in_default.ensures.0 _ _ _ _ c.loop-index.invariant refl (takes-field_at c.loop-index.index c.args.dtypes.now c.index-dtypes-index.result c.loop-index-test.true c.index-dtypes-index.is)
    c.in_default.ensures.2 c.in_default.ensures.1

pub read_struct-returns-in_err-take : goal.read_struct-returns-in_err-take
read_struct-returns-in_err-take t c =
    passed _ _ _ _ _ _ c.from_residual.ensures
    (end-refused (struct_type [] (dtype_trees c.args.dtypes.now) NonNullable) (FieldsValid (dtype_trees c.args.dtypes.now)) (FieldsValid (dtype_trees (drop c.loop-index.index c.args.dtypes.now))) (value_trees c.loop-index.parts.items) _ _ _ _ _ (struct-tuple (dtype_trees c.args.dtypes.now)) (c.takes.ensures.taken c.if-not-takes.false) c.loop-index.invariant c.in_err-take.ensures.0 (no-fields c.loop-index.index c.args.dtypes.now c.loop-index-test.false) (never-fields c.loop-index.index c.args.dtypes.now c.loop-index-test.false) c.in_err-take.ensures.1)

pub read_struct-returns : goal.read_struct-returns
read_struct-returns t c =
    end-found (struct_type [] (dtype_trees c.args.dtypes.now) NonNullable) (FieldsValid (dtype_trees c.args.dtypes.now)) (FieldsValid (dtype_trees (drop c.loop-index.index c.args.dtypes.now))) c.loop-index.parts _ _ _ _ (struct-tuple (dtype_trees c.args.dtypes.now)) (c.takes.ensures.taken c.if-not-takes.false) c.loop-index.invariant (no-fields c.loop-index.index c.args.dtypes.now c.loop-index-test.false) c.in_ok-take.ensures

pub read_union-returns-then-not-takes : goal.read_union-returns-then-not-takes
read_union-returns-then-not-takes t c = head-union_refused (variants_of c.args.variants.now).type_ids (as_type_trees (variants_of c.args.variants.now).types) c.has_child.result c.bad_or_none.result _ _ c.bad_or_none.ensures c.has_child.ensures (c.takes.ensures.unchanged c.if-not-takes.true) (c.takes.ensures.other c.if-not-takes.true)

pub read_union-returns-in-None : goal.read_union-returns-in-None
read_union-returns-in-None t c = id-refused (variants_of c.args.variants.now).type_ids (as_type_trees (variants_of c.args.variants.now).types) c.has_child-in-None.result c.bad_or_none-in-None.result _ _ _ c.bad_or_none-in-None.ensures c.has_child-in-None.ensures (c.takes.ensures.taken c.if-not-takes.false) c.in-None.ensures

pub read_union-of_union-requires : goal.read_union-of_union-requires
read_union-of_union-requires t c = lacks-child (variants_of c.args.variants.now).type_ids (as_type_trees (variants_of c.args.variants.now).types) c.in-Some.id (type_of c.in-Some.dtype.now) c.in-Err.error _ _ c.in-Some.ensures.1 c.in-Err.ensures

pub read_union-returns-in-Err : goal.read_union-returns-in-Err
read_union-returns-in-Err t c =
    child-refused (variants_of c.args.variants.now).type_ids (as_type_trees (variants_of c.args.variants.now).types) c.in-Some.id (type_of c.in-Some.dtype.now) c.in-Err.error c.of_union.result _ _ _ _ _ (c.takes.ensures.taken c.if-not-takes.false) c.in-Some.ensures.0 c.in-Some.ensures.1 c.in-Some.ensures.2 c.in-Err.ensures c.of_union.ensures

pub read_union-read-requires : goal.read_union-read-requires
read_union-read-requires t c =
    omega (arith, child-size c.in-Some.id (variants_of c.args.variants.now).type_ids (as_type_trees (variants_of c.args.variants.now).types) (type_of c.in-Some.dtype.now) c.in-Some.ensures.1)

pub push_value-returns-in_err-push-in-Ok : goal.push_value-returns-in_err-push-in-Ok
push_value-returns-in_err-push-in-Ok t c = puts-passed _ _ _ _ _ _ _ c.from_residual.ensures (no-memory _ _ _ _ c.in_err-push-in-Ok.ensures)

pub push_value-returns-in_ok-push-in-Ok : goal.push_value-returns-in_ok-push-in-Ok
push_value-returns-in_ok-push-in-Ok t c = (Present c.in-Ok.value, c.in_ok-push-in-Ok.ensures, present-read _ _ _ _ _ refl c.in-Ok.ensures)

pub push_next-returns-in_err-push_leaf : goal.push_next-returns-in_err-push_leaf
push_next-returns-in_err-push_leaf t c = puts-passed _ _ _ _ _ _ _ c.from_residual.ensures c.in_err-push_leaf.ensures.refused
