-- What is asked of the parts of a type, and what they make of it.
use Rattle.std.proofs.Common.{◌≡◌, ◌++◌, ◌∷◌, [], rules, sym, ◌∙◌, arith}
use Rattle.vortex_dtype.specs.TypeOf.{type_of, variants_of}
use Rattle.vortex_dtype.specs.declared.types.DType.{the_lemmas}
use Rattle.vortex_value.specs.Steps.Filling.{first_of}
use Rattle.vortex_value.specs.Zero.{filling}
use Rattle.vortex_value.proofs.FillingSteps.{child_asks, field_filled, fields_push_at, first_smaller, fixed_fills, place_filled, struct_asks_of, struct_fills, type_size_item, union_asks_of, union_fills}
use Rattle.vortex_value.proofs.zero.+fill.Goals as goal

pub write_zero_or_default-zero_or_default_fields-requires : goal.write_zero_or_default-zero_or_default_fields-requires
write_zero_or_default-zero_or_default_fields-requires t c = (
  search (rules, the_lemmas),
  struct_asks_of c.args.nulls c.args.dtype.now c.in-Struct.fields c.in-Struct.field-1 c.dtypes.result.now c.in-Struct.is
      (sym c.is_null_default.ensures ∙ c.if-is_null_default.false) c.requires c.dtypes.ensures.trees,
)

pub write_zero_or_default-zero_or_default_first-requires : goal.write_zero_or_default-zero_or_default_first-requires
write_zero_or_default-zero_or_default_first-requires t c = (
  search (rules, the_lemmas),
  union_asks_of c.args.nulls c.args.dtype.now c.in-Union.variants c.in-Union.field-1 c.in-Union.is
      (sym c.is_null_default.ensures ∙ c.if-is_null_default.false) c.requires,
)

pub write_zero_or_default-returns-in_ok-items-in-FixedSizeList : goal.write_zero_or_default-returns-in_ok-items-in-FixedSizeList
write_zero_or_default-returns-in_ok-items-in-FixedSizeList t c =
    fixed_fills c.args.nulls c.args.dtype.now c.in-FixedSizeList.element c.deref.result.now c.in-FixedSizeList.size c.in-FixedSizeList.field-2 c.in_ok-items-in-FixedSizeList.items
    c.in-FixedSizeList.is c.deref.ensures (sym c.is_null_default.ensures ∙ c.if-is_null_default.false)
    c.in_ok-items-in-FixedSizeList.ensures.0 c.in_ok-items-in-FixedSizeList.ensures.1

pub write_zero_or_default-returns-in_ok-items-in-Struct : goal.write_zero_or_default-returns-in_ok-items-in-Struct
write_zero_or_default-returns-in_ok-items-in-Struct t c =
    struct_fills c.args.nulls c.args.dtype.now c.in-Struct.fields c.in-Struct.field-1 c.dtypes.result.now c.in_ok-items-in-Struct.items
    c.in-Struct.is (sym c.is_null_default.ensures ∙ c.if-is_null_default.false) c.dtypes.ensures.trees c.in_ok-items-in-Struct.ensures

pub write_zero_or_default-returns-in_ok-union-in-Union : goal.write_zero_or_default-returns-in_ok-union-in-Union
write_zero_or_default-returns-in_ok-union-in-Union t c =
    union_fills c.args.nulls c.args.dtype.now c.in-Union.variants c.in-Union.field-1 c.in_ok-union-in-Union.union
    c.in-Union.is (sym c.is_null_default.ensures ∙ c.if-is_null_default.false) c.in_ok-union-in-Union.ensures

pub zero_or_default_fields-write_zero_or_default-requires : goal.zero_or_default_fields-write_zero_or_default-requires
zero_or_default_fields-write_zero_or_default-requires t c =
    let small = type_size_item c.args.dtypes.now c.loop-dtype.dtype-index c.dtype-item.result c.loop-dtype-test.true c.dtype-item.is in
    (omega (arith, small), field_filled c.args.nulls c.args.dtypes.now c.loop-dtype.dtype-index c.dtype-item.result c.loop-dtype-test.true c.dtype-item.is c.requires)

pub zero_or_default_fields-loop-dtype-preserved : goal.zero_or_default_fields-loop-dtype-preserved
zero_or_default_fields-loop-dtype-preserved t c =
    let pushed : c.push.new.self.items ≡ c.loop-dtype.items.items ++ c.write_zero_or_default.new.place ∷ [] = search rules in
    rw pushed (fields_push_at c.args.nulls c.args.dtypes.now c.loop-dtype.dtype-index c.dtype-item.result c.loop-dtype.items.items c.write_zero_or_default.new.place
    c.loop-dtype-test.true c.dtype-item.is c.loop-dtype.invariant c.in_ok-write_zero_or_default.ensures)

pub zero_or_default_first-write_zero_or_default-requires : goal.zero_or_default_first-write_zero_or_default-requires
zero_or_default_first-write_zero_or_default-requires t c =
    let v = variants_of c.args.variants.now in (
      omega (arith, first_smaller v.type_ids v.types c.in-Some.id (type_of c.in-Some.variant.now) c.in-Some.ensures),
      child_asks (filling c.args.nulls) (first_of v.type_ids v.types) c.in-Some.id (type_of c.in-Some.variant.now) c.in-Some.ensures c.requires,
    )

pub zero_or_default_places-write_zero_or_default-requires : goal.zero_or_default_places-write_zero_or_default-requires
zero_or_default_places-write_zero_or_default-requires t c = (
  search (rules, the_lemmas),
  place_filled c.loop.counter c.args.size (filling c.args.nulls (type_of c.args.element.now)) c.loop-test.true c.requires,
)
