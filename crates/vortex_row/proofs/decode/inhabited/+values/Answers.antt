-- The values of each kind of type.
use Rattle.std.proofs.Common.{◌<◌, arith, rules, subst}
use Rattle.vortex_dtype.specs.TypeOf.{as_type_trees, dtype_trees, fields_of, type_of, variants_of}
use Rattle.vortex_dtype.specs.TypeTree.{fixed_size_list_type, struct_type}
use Rattle.vortex_value.specs.Validity.{FieldsValid}
use Rattle.vortex_row.specs.Reading.{AreSized, LacksChild}
use Rattle.vortex_row.proofs.PartSteps.{fixed-tuple, struct-tuple}
use Rattle.vortex_row.proofs.InhabitedSteps.{bool-there, bytes-there, extension-told, fields-end, fields-more, list-there, map-there, no-children, no-fields_there, none-more, none-sized_there, none-told, none-yet, null-there, number-there, one-child, sized-told, text-there, told-not, told-so, tuple-told, union-told, value-told}
use Rattle.vortex_row.proofs.ValueSteps.{extension-type, fixed-type, struct-type, union-type}
use Rattle.vortex_row.proofs.decode.inhabited.+values.Goals as goal

pub has_value-returns-then-is_nullable : goal.has_value-returns-then-is_nullable
has_value-returns-then-is_nullable t c = null-there (type_of c.args.dtype.now) c.is_nullable.result c.is_nullable.ensures c.if-is_nullable.true

pub has_value-returns : goal.has_value-returns
has_value-returns t c = value-told (type_of c.args.dtype.now) c.is_nullable.result _ c.is_nullable.ensures c.if-is_nullable.false c.has_present.ensures

pub has_present-returns-in-FixedSizeList : goal.has_present-returns-in-FixedSizeList
has_present-returns-in-FixedSizeList t c =
    tuple-told _ _ (fixed_size_list_type (type_of c.deref.result.now) c.in-FixedSizeList.size c.in-FixedSizeList.field-2) (AreSized c.in-FixedSizeList.size (type_of c.deref.result.now))
    (fixed-type c.args.dtype.now c.deref.result.now c.in-FixedSizeList.element c.in-FixedSizeList.size c.in-FixedSizeList.field-2 c.in-FixedSizeList.is c.deref.ensures) (fixed-tuple (type_of c.deref.result.now) c.in-FixedSizeList.size) c.has_sized.ensures

pub has_present-returns-in-Struct : goal.has_present-returns-in-Struct
has_present-returns-in-Struct t c =
    tuple-told _ _ (struct_type (fields_of c.in-Struct.fields).names (dtype_trees c.dtypes.result.now) c.in-Struct.field-1) (FieldsValid (dtype_trees c.dtypes.result.now))
    (struct-type c.args.dtype.now c.in-Struct.fields c.dtypes.result.now c.in-Struct.field-1 c.in-Struct.is c.dtypes.ensures.trees) (struct-tuple (dtype_trees c.dtypes.result.now)) c.have_values.ensures

pub has_present-returns-in-Union : goal.has_present-returns-in-Union
has_present-returns-in-Union t c = union-told _ _ _ _ _ _ (union-type c.args.dtype.now c.in-Union.variants c.in-Union.field-1 c.in-Union.is) c.has_child.ensures

pub has_present-returns-in-Extension : goal.has_present-returns-in-Extension
has_present-returns-in-Extension t c =
    extension-told _ _ _ _ _ (extension-type c.args.dtype.now c.in-Extension.extension c.storage_dtype.result.now c.in-Extension.is c.storage_dtype.ensures.tree) c.has_present.ensures

pub has_present-returns-in-Null : goal.has_present-returns-in-Null
has_present-returns-in-Null t c = none-told c.args.dtype.now c.in-Null.is

pub has_sized-returns-then-size-eq0 : goal.has_sized-returns-then-size-eq0
has_sized-returns-then-size-eq0 t c = none-sized_there c.args.size (type_of c.args.element.now) (omega arith)

pub has_sized-returns : goal.has_sized-returns
has_sized-returns t c = sized-told _ c.args.size (type_of c.args.element.now) c.if-size-eq0.false c.has_value.ensures

pub have_values-loop-dtype-init : goal.have_values-loop-dtype-init
have_values-loop-dtype-init t c = λ h. h

pub have_values-loop-dtype-preserved : goal.have_values-loop-dtype-preserved
have_values-loop-dtype-preserved t c =
    fields-more c.loop-dtype.dtype-index c.args.dtypes.now c.dtype-item.result c.loop-dtype-test.true c.dtype-item.is (told-so _ _ c.if-not-has_value.false c.has_value.ensures) c.loop-dtype.invariant

pub have_values-returns-then-not-has_value : goal.have_values-returns-then-not-has_value
have_values-returns-then-not-has_value t c =
    no-fields_there c.loop-dtype.dtype-index c.args.dtypes.now c.dtype-item.result c.loop-dtype-test.true c.dtype-item.is (told-not _ _ c.if-not-has_value.true c.has_value.ensures)

pub have_values-returns : goal.have_values-returns
have_values-returns t c = c.loop-dtype.invariant (fields-end c.loop-dtype.dtype-index c.args.dtypes.now c.loop-dtype-test.false)

pub has_child-loop-index-init : goal.has_child-loop-index-init
has_child-loop-index-init t c = none-yet _ _

pub has_child-loop-index-preserved : goal.has_child-loop-index-preserved
has_child-loop-index-preserved t c = none-more c.loop-index.index c.child_index_to_tag.result _ _ c.loop-index.invariant c.child_index_to_tag.ensures (told-not _ _ c.if-has_child_at.false c.has_child_at.ensures)

pub has_child-returns-then-has_child_at : goal.has_child-returns-then-has_child_at
has_child-returns-then-has_child_at t c =
    let small : c.child_index_to_tag.result < 256 = search rules in
    one-child c.child_index_to_tag.result _ _ small (told-so _ _ c.if-has_child_at.true c.has_child_at.ensures)

pub has_child-returns : goal.has_child-returns
has_child-returns t c = no-children c.loop-index.index _ _ (omega (arith, c.len-index-end.ensures, c.loop-index-test.false)) c.loop-index.invariant

pub has_child_at-returns-then-is_some_id : goal.has_child_at-returns-then-is_some_id
has_child_at-returns-then-is_some_id t c =
    subst (λ o. LacksChild o (variants_of c.args.variants.now).type_ids (as_type_trees (variants_of c.args.variants.now).types)) (c.is_some_id.ensures c.if-is_some_id.true) c.requires

pub has_present-returns-in-Bool : goal.has_present-returns-in-Bool
has_present-returns-in-Bool t c = bool-there c.args.dtype.now c.in-Bool.field-0 c.in-Bool.is

pub has_present-returns-in-Primitive : goal.has_present-returns-in-Primitive
has_present-returns-in-Primitive t c = number-there c.args.dtype.now c.in-Primitive.field-0 c.in-Primitive.field-1 c.in-Primitive.is

pub has_present-returns-in-Utf8 : goal.has_present-returns-in-Utf8
has_present-returns-in-Utf8 t c = text-there c.args.dtype.now c.in-Utf8.field-0 c.in-Utf8.is

pub has_present-returns-in-Binary : goal.has_present-returns-in-Binary
has_present-returns-in-Binary t c = bytes-there c.args.dtype.now c.in-Binary.field-0 c.in-Binary.is

pub has_present-returns-in-List : goal.has_present-returns-in-List
has_present-returns-in-List t c = list-there c.args.dtype.now c.in-List.field-0 c.in-List.field-1 c.in-List.is

pub has_present-returns-in-Map : goal.has_present-returns-in-Map
has_present-returns-in-Map t c = map-there c.args.dtype.now c.in-Map.field-0 c.in-Map.field-1 c.in-Map.is
