-- The words of the contracts, from one place: those of the crates below, and of this one.
pub use Rattle.std.specs.Cmp.{IsEquivalence, partial_equiv_from_equiv}
pub use Rattle.std.specs.Fmt.{WritesOnOk}
pub use Rattle.std.specs.Global.{Global}
pub use Rattle.std.specs.Hash.{and-Alike, on_Alike}
pub use Rattle.std.specs.Iterator.{IsFinite}
pub use Rattle.std.specs.Iterator.Runs.{SomeRun, WholeRun}
pub use Rattle.std.specs.List.{All, flat_map, zip}
pub use Rattle.std.specs.Option.{is_none, is_some, option_copied}
pub use Rattle.std.specs.Ordering.{int_eq, nat_cmp}
pub use Rattle.std.specs.Str.{bytes_eq, chars, encode_utf8_all}
pub use Rattle.std.specs.Vec.{vec_capacity, vec_len}
pub use Rattle.vortex_dtype.specs.Laws.{AgreesWithHash}
pub use Rattle.vortex_dtype.specs.Memory.{GivesOrNoMemory}
pub use Rattle.vortex_dtype.specs.Parts.{fields_in, map_in}
pub use Rattle.vortex_dtype.specs.Refusals.{RefusesExactly, RefusesOrNoMemory}
pub use Rattle.vortex_dtype.specs.TypeEquality.{tree_eq}
pub use Rattle.vortex_dtype.specs.TypeOf.{as_type_trees, dtype_trees, ext_of, fields_of, map_of, type_of, variants_of}
pub use Rattle.vortex_dtype.specs.TypeTree.{IsFlat, IsNullable, Same, as_nullable, binary_type, bool_type, fixed_size_list_type, integer_type, is_nullable, list_type, null_type, storage, utf8_type, variant_type}
pub use Rattle.vortex_dtype.specs.declared.error.VortexError.TheVariants.{OutOfMemory, WrongKind}
pub use Rattle.vortex_dtype.specs.declared.nullability.Nullability.TheVariants.{NonNullable, Nullable}
pub use Rattle.vortex_dtype.specs.declared.ptype.PType.TheVariants.{I16, I32, I64, I8, U16, U32, U64, U8}
pub use Rattle.vortex_pvalue.specs.Whole.{ptype_of, whole_of}
pub use Rattle.vortex_value.specs.Breaches.{Found, Refuses, ValidExactlyWithoutBreach, ValidityIsDecided, breaches, breaches_at, breaches_of_entry, child_breaches, element_breaches, entry_breaches, field_breaches, here, is_valid, under}
pub use Rattle.vortex_value.specs.CastAnswers.{AnswersCast}
pub use Rattle.vortex_value.specs.Casts.{OneValue}
pub use Rattle.vortex_value.specs.Conversions.{IsMadeValid, ShortNeverOutOfMemory, Takes, TakesCopy, bytes_in, given_number, given_option, given_usize, number_in, or_none, taken_bool, taken_bytes, taken_number, taken_option_bool, taken_option_bytes, taken_option_number, taken_option_text, taken_option_usize, taken_text, taken_usize, text_in}
pub use Rattle.vortex_value.specs.Equality.{EqualContents, EqualityAgreesWithoutTyped, EqualityIsAnEquivalence, EqualityIsDecided, EqualsByContent, EqualsByTypeAndContent, all_equal, equal, same_type}
pub use Rattle.vortex_value.specs.Hashing.{EqualFeedSame, content_feed, counted_feed, typed_feed}
pub use Rattle.vortex_value.specs.Items.{GivesOnly, IsRefusedAtLast, MadeOfItems, RefusesAtLast, RefusesItems}
pub use Rattle.vortex_value.specs.Makers.{IsValidEntry, child_cause, child_trees, count_cause, entries_cause, entry_cause, extension_over, fields_cause, inside_cause, is_entry_of, list_cause, map_cause, raw_entries, raw_entry, struct_cause, union_cause, union_of, wrong_place}
pub use Rattle.vortex_value.specs.Order.{AgreesWhere, IsReversed, IsTransitive, order, orders}
pub use Rattle.vortex_value.specs.Reinterpretations.{IsAsWide, ScalarsReinterpretBack, in_ptype, ptype_in, reinterpreted}
pub use Rattle.vortex_value.specs.Size.{SizeIsSum, capped, child_size, elements_size, entries_size, entry_size, fields_size, size_of}
pub use Rattle.vortex_value.specs.Steps.CastSteps.{Appends, FlatNeverOutOfMemory, IsBareTarget, LeafOutOfMemoryOnlyIfMakeable, Makes, MakesParts, OutOfMemoryOnlyIfMakeable, WholeOutOfMemoryOnlyIfMakeable, accepts, bare_to, cast_to, each_to, entries_to, entry_to, fields_to, keeps_its_kind, leaf_to, map_to, may_unwrap, number_to, parts_to, sized, sorts, takes_null, types_with, unwrapped}
pub use Rattle.vortex_value.specs.Steps.Copies.{Adds}
pub use Rattle.vortex_value.specs.Steps.Faults.{Checks, HasPath, Shows, is_leaf}
pub use Rattle.vortex_value.specs.Steps.Filling.{EachFills, FillFields, Fills, FillsFirst, child_filling, first_of}
pub use Rattle.vortex_value.specs.Steps.Labels.{before_at, field_at}
pub use Rattle.vortex_value.specs.Texts.{between, element_texts, entry_text, entry_texts, escaped, field_texts, hexadecimal, in_braces, in_brackets, in_parentheses, in_quotes, joined, null_text, raw_text_of, raw_texts, shortened, text_at, text_of, truth_text, two_digits}
unfoldable pub use Rattle.vortex_value.specs.Texts.{escaped_char}
pub use Rattle.vortex_value.specs.TypesWithin.{HasNoVariant}
pub use Rattle.vortex_value.specs.Validity.{Valid, type_with}
pub use Rattle.vortex_value.specs.Values.Content.{content, contents, typed}
pub use Rattle.vortex_value.specs.Values.RawKinds.{IsBoolValue, IsBytesValue, IsIntegerValue, IsTextValue, IsTupleValue, IsUnionValue, IsVariantValue, TakesNoMemory}
pub use Rattle.vortex_value.specs.Values.RawOf.{lent_raw, raw_of, union_tree, value_tree, value_trees, variant_tree}
pub use Rattle.vortex_value.specs.Values.RawTree.{RawTree, absent, count, is_absent, no_raws, raw_bool, raw_bytes, raw_integer, raw_text, raw_tuple, raw_union, raw_variant}
pub use Rattle.vortex_value.specs.Values.Refs.{IsRefOf, IsValidRef, ref_content, ref_order, ref_raw, ref_type}
pub use Rattle.vortex_value.specs.Values.Scalars.{IsMadeOf, IsValid, scalar_content, scalar_order, scalar_raw, scalar_type}
pub use Rattle.vortex_value.specs.Zero.{DefaultExists, IsTheOneOf, ZeroIsZero, default_of, each_zero, fields_zero, filling, fillings, is_zero_of, of_first, of_inner, places_of, zero_of}
pub use Rattle.vortex_value.specs.declared.cast.refusals.Refusal.TheVariants.{Impossible, NoMemory}
