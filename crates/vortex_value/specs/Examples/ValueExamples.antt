-- Worked cases of the definitions, each a theorem: what is valid, which breach stands where, how contents are ordered
-- and equal, and what an integer type holds. Those of casts stand in CastExamples.
use Rattle.std.proofs.Common.{subst}
use Rattle.std.proofs.Math.Facts.{leb_yes, yes_leb}
use Rattle.std.specs.Prelude.{◌≡◌, ◌^◌, ◌==◌, ℕ, zero, suc, pos, negsuc, Bool, true, false, not, T, leb, List, [], ◌∷◌, replicate, Some, None, refl, codes}
use Rattle.std.specs.Int.{int_wrap}
use Rattle.std.specs.declared.cmp.Ordering.TheVariants.{Less, Equal, Greater}
use Rattle.vortex_dtype.specs.TypeTree.{TypeTree, null_type, bool_type, integer_type, utf8_type, binary_type, list_type, fixed_size_list_type, map_type, struct_type, union_type, variant_type, extension_type, TypeTrees, no_types, type_then, says_nullable, as_nullable, Same}
use Rattle.vortex_dtype.specs.declared.error.Breach.TheVariants.{NullNotAllowed, WrongValue, WrongLength, UnknownTypeId, NullEntry, VariantNull}
use Rattle.vortex_dtype.specs.declared.error.Step.TheVariants.{Element, Entry, Key, Value, Field, Child, Inner}
use Rattle.vortex_dtype.specs.declared.nullability.Nullability.TheVariants.{NonNullable, Nullable}
use Rattle.vortex_dtype.specs.declared.ptype.PType.TheVariants.{U8, U32, U64, I8, I16, I32, I64}
use Rattle.vortex_dtype.specs.declared.ptype.PType.{PType}
use Rattle.vortex_dtype.specs.PTypes.{same_ptype}
use Rattle.vortex_pvalue.specs.Numbers.{in_range, wrapped}
use Rattle.vortex_value.specs.Breaches.{breaches, first, is_null_type}
use Rattle.vortex_value.specs.Values.Content.{Content, null, truth, whole, text, string, sequence, tagged, typed, Contents, no_contents, content_then, content}
use Rattle.vortex_value.specs.Equality.{EqualContents}
use Rattle.vortex_value.specs.Order.{order}
use Rattle.vortex_value.specs.Values.RawTree.{RawTree, absent, raw_bool, raw_integer, raw_text, raw_bytes, raw_tuple, raw_union, raw_variant, RawTrees, no_raws, raw_then}
use Rattle.vortex_value.specs.Validity.{Valid}

-- Types. What is not said to be nullable is not.

abbrev pub i8 : TypeTree
i8 = integer_type I8 NonNullable

abbrev pub i16 : TypeTree
i16 = integer_type I16 NonNullable

abbrev pub i32 : TypeTree
i32 = integer_type I32 NonNullable

abbrev pub i64 : TypeTree
i64 = integer_type I64 NonNullable

abbrev pub u8 : TypeTree
u8 = integer_type U8 NonNullable

abbrev pub u32 : TypeTree
u32 = integer_type U32 NonNullable

abbrev pub u64 : TypeTree
u64 = integer_type U64 NonNullable

abbrev pub boolean : TypeTree
boolean = bool_type NonNullable

abbrev pub utf8 : TypeTree
utf8 = utf8_type NonNullable

abbrev pub binary : TypeTree
binary = binary_type NonNullable

abbrev pub variant : TypeTree
variant = variant_type NonNullable

-- a type and its nullable one are the same up to nullability
abbrev pub or_null : TypeTree → TypeTree
or_null = as_nullable

abbrev pub list_of : TypeTree → TypeTree
list_of e = list_type e NonNullable

abbrev pub fixed_list_of : TypeTree → ℕ → TypeTree
fixed_list_of e size = fixed_size_list_type e size NonNullable

abbrev pub map_of : TypeTree → TypeTree → TypeTree
map_of k w = map_type k w false NonNullable

-- a map with keys that claim to be sorted
abbrev pub sorted_map_of : TypeTree → TypeTree → TypeTree
sorted_map_of k w = map_type k w true NonNullable

abbrev pub all_types : List TypeTree → TypeTrees
all_types [] = no_types
all_types (t ∷ ts) = type_then t (all_types ts)

-- a struct of fields with these names and types
abbrev pub struct_of : List (List ℕ) → List TypeTree → TypeTree
struct_of names ts = struct_type names (all_types ts) NonNullable

-- a union of variants with these names, ids and types
abbrev pub union_of : List (List ℕ) → List ℕ → List TypeTree → TypeTree
union_of names ids ts = union_type names (all_types ts) ids NonNullable

-- two extensions with different ids
abbrev pub extension_a : TypeTree → TypeTree
extension_a t = extension_type (codes "a") [] t

abbrev pub extension_b : TypeTree → TypeTree
extension_b t = extension_type (codes "b") [] t

-- a struct of a and b
abbrev pub a_and_b : TypeTree → TypeTree → TypeTree
a_and_b s t = struct_of (codes "a" ∷ codes "b" ∷ []) (s ∷ t ∷ [])

-- a nullable union of int, with the id 5 and a nullable i32, and string, with the id 9
abbrev pub int_or_string : TypeTree
int_or_string = or_null (union_of (codes "int" ∷ codes "string" ∷ []) (5 ∷ 9 ∷ []) (or_null i32 ∷ utf8 ∷ []))

-- nullable maps of i32 and nullable strings, without and with the claim to be sorted
abbrev pub unsorted_map : TypeTree
unsorted_map = or_null (map_of i32 (or_null utf8))

abbrev pub sorted_map : TypeTree
sorted_map = or_null (sorted_map_of i32 (or_null utf8))

-- so many lists in one another, round the type
abbrev pub nested_list : ℕ → TypeTree → TypeTree
nested_list zero t = t
nested_list (suc n) t = list_of (nested_list n t)

-- Raw values.

abbrev pub all_raws : List RawTree → RawTrees
all_raws [] = no_raws
all_raws (v ∷ vs) = raw_then v (all_raws vs)

abbrev pub tuple : List RawTree → RawTree
tuple vs = raw_tuple (all_raws vs)

abbrev pub entry : RawTree → RawTree → RawTree
entry x y = tuple (x ∷ y ∷ [])

-- an i32
abbrev pub int : ℕ → RawTree
int n = raw_integer I32 (pos n)

abbrev pub letter_a : RawTree
letter_a = raw_text (codes "a")

-- so many tuples of one part in one another, round the value
abbrev pub nested_tuple : ℕ → RawTree → RawTree
nested_tuple zero v = v
nested_tuple (suc n) v = tuple (nested_tuple n v ∷ [])

-- Contents.

abbrev pub all_contents : List Content → Contents
all_contents [] = no_contents
all_contents (c ∷ cs) = content_then c (all_contents cs)

abbrev pub parts : List Content → Content
parts cs = sequence (all_contents cs)

abbrev pub number : ℕ → Content
number n = whole (pos n)

-- so many sequences of one place in one another, round the content
abbrev pub nested_parts : ℕ → Content → Content
nested_parts zero c = c
nested_parts (suc n) c = parts (nested_parts n c ∷ [])

-- two things differ if a test tells them apart
pub tell_apart : {A : Type 0} (test : A → Bool) {x y : A} → x ≡ y → T (test x) → T (test y)
tell_apart test p = subst (λ z. T (test z)) p

pub no_null : ¬ (NonNullable ≡ Nullable)
no_null h = tell_apart (λ n. not (says_nullable n)) h tt

abbrev pub is_integer_of : PType → TypeTree → Bool
is_integer_of k (integer_type l n) = same_ptype k l
is_integer_of k _ = false

abbrev pub is_sorted_map : TypeTree → Bool
is_sorted_map (map_type k w sorted n) = sorted
is_sorted_map _ = false

-- Valid and not valid, type by type.

pub i32_valid : (n : ℕ) → T (leb (suc n) (2 ^ 31)) → Valid i32 (int n)
i32_valid n h = (refl, record { sfits = leb_yes h })

pub null_type_takes_null : Valid null_type absent
null_type_takes_null = refl

pub null_type_takes_no_truth_value : ¬ (Valid null_type (raw_bool true))
null_type_takes_no_truth_value h = h

pub nullable_boolean_takes_null : Valid (or_null boolean) absent
nullable_boolean_takes_null = refl

pub nullable_boolean_takes_no_integer : ¬ (Valid (or_null boolean) (int 1))
nullable_boolean_takes_no_integer h = h

pub boolean_takes_true : Valid boolean (raw_bool true)
boolean_takes_true = tt

pub boolean_takes_no_null : ¬ (Valid boolean absent)
boolean_takes_no_null h = no_null h

pub boolean_takes_no_integer : ¬ (Valid boolean (int 1))
boolean_takes_no_integer h = h

pub i32_takes_one : Valid i32 (int 1)
i32_takes_one = i32_valid 1 tt

pub i32_takes_no_i64 : ¬ (Valid i32 (raw_integer I64 (pos 1)))
i32_takes_no_i64 h = tell_apart (same_ptype I64) h.0 tt

pub i8_takes_127 : Valid i8 (raw_integer I8 (pos 127))
i8_takes_127 = (refl, record { sfits = leb_yes tt })

pub i8_takes_no_200 : ¬ (Valid i8 (raw_integer I8 (pos 200)))
i8_takes_no_200 h = yes_leb h.1.sfits

pub u8_takes_no_minus_one : ¬ (Valid u8 (raw_integer U8 (negsuc 0)))
u8_takes_no_minus_one h = h.1

pub utf8_takes_a : Valid utf8 letter_a
utf8_takes_a = tt

pub utf8_takes_no_truth_value : ¬ (Valid utf8 (raw_bool true))
utf8_takes_no_truth_value h = h

pub binary_takes_the_empty_string : Valid binary (raw_bytes [])
binary_takes_the_empty_string = tt

pub binary_takes_no_text : ¬ (Valid binary letter_a)
binary_takes_no_text h = h

pub list_takes_its_elements : Valid (list_of i32) (tuple (int 1 ∷ int 1 ∷ []))
list_takes_its_elements = (i32_valid 1 tt, (i32_valid 1 tt, tt))

pub list_takes_no_null_element : ¬ (Valid (list_of i32) (tuple (int 1 ∷ absent ∷ [])))
list_takes_no_null_element h = no_null h.1.0

pub list_takes_no_integer : ¬ (Valid (list_of i32) (int 1))
list_takes_no_integer h = h

pub fixed_list_takes_its_size : Valid (fixed_list_of i32 2) (tuple (int 1 ∷ int 1 ∷ []))
fixed_list_takes_its_size = (refl, (i32_valid 1 tt, (i32_valid 1 tt, tt)))

pub fixed_list_takes_no_other_size : ¬ (Valid (fixed_list_of i32 2) (tuple (int 1 ∷ [])))
fixed_list_takes_no_other_size h = tell_apart (λ n. n == 1) h.0 tt

pub map_takes_a_null_value : Valid (map_of i32 (or_null boolean)) (tuple (entry (int 1) absent ∷ []))
map_takes_a_null_value = (i32_valid 1 tt, refl, tt)

pub map_takes_no_null_entry : ¬ (Valid (map_of i32 (or_null boolean)) (tuple (absent ∷ [])))
map_takes_no_null_entry h = h

pub map_takes_no_null_key : ¬ (Valid (map_of i32 (or_null boolean)) (tuple (entry absent absent ∷ [])))
map_takes_no_null_key h = no_null h.0

pub map_takes_no_entry_of_one : ¬ (Valid (map_of i32 (or_null boolean)) (tuple (tuple (int 1 ∷ []) ∷ [])))
map_takes_no_entry_of_one h = h

pub sorted_map_takes_keys_in_any_order : Valid (sorted_map_of i32 i32) (tuple (entry (int 2) (int 1) ∷ entry (int 1) (int 1) ∷ []))
sorted_map_takes_keys_in_any_order = (i32_valid 2 tt, i32_valid 1 tt, (i32_valid 1 tt, i32_valid 1 tt, tt))

pub struct_takes_its_fields : Valid (a_and_b i32 (or_null utf8)) (tuple (int 1 ∷ letter_a ∷ []))
struct_takes_its_fields = (i32_valid 1 tt, (tt, tt))

pub struct_takes_a_null_at_a_nullable_field : Valid (a_and_b i32 (or_null utf8)) (tuple (int 1 ∷ absent ∷ []))
struct_takes_a_null_at_a_nullable_field = (i32_valid 1 tt, (refl, tt))

pub struct_takes_no_null_at_another_field : ¬ (Valid (a_and_b i32 (or_null utf8)) (tuple (absent ∷ absent ∷ [])))
struct_takes_no_null_at_another_field h = no_null h.0

pub struct_takes_no_fewer_values : ¬ (Valid (a_and_b i32 (or_null utf8)) (tuple (int 1 ∷ [])))
struct_takes_no_fewer_values h = h.1

-- a union of int alone, with the id 3
abbrev only_int : TypeTree
only_int = union_of (codes "int" ∷ []) (3 ∷ []) (i32 ∷ [])

pub union_takes_a_variant_by_its_id : Valid only_int (raw_union 3 (int 1))
union_takes_a_variant_by_its_id = i32_valid 1 tt

pub union_takes_no_other_id : ¬ (Valid only_int (raw_union 4 (int 1)))
union_takes_no_other_id h = h

-- two variants with the id 3: the first counts
abbrev pub int_twice : TypeTree
int_twice = union_of (codes "int" ∷ codes "string" ∷ []) (3 ∷ 3 ∷ []) (i32 ∷ utf8 ∷ [])

pub union_takes_the_first_variant_of_an_id : Valid int_twice (raw_union 3 (int 1))
union_takes_the_first_variant_of_an_id = i32_valid 1 tt

pub union_takes_no_second_variant_of_an_id : ¬ (Valid int_twice (raw_union 3 letter_a))
union_takes_no_second_variant_of_an_id h = h

pub union_takes_no_null_child : ¬ (Valid only_int (raw_union 3 absent))
union_takes_no_null_child h = no_null h

pub variant_takes_the_null_of_null : Valid variant (raw_variant null_type absent)
variant_takes_the_null_of_null = (refl, refl)

pub variant_takes_true_of_boolean : Valid variant (raw_variant boolean (raw_bool true))
variant_takes_true_of_boolean = (tt, tt)

pub variant_takes_no_other_null : ¬ (Valid variant (raw_variant (or_null boolean) absent))
variant_takes_no_other_null h = tell_apart (λ t. not (is_null_type t)) h.0 tt

pub variant_takes_no_null_of_an_extension_over_null : ¬ (Valid variant (raw_variant (extension_a null_type) absent))
variant_takes_no_null_of_an_extension_over_null h = tell_apart (λ t. not (is_null_type t)) h.0 tt

pub extension_takes_what_its_storage_takes : Valid (extension_a (extension_b i32)) (int 7)
extension_takes_what_its_storage_takes = i32_valid 7 tt

-- Breaches: the path to each, in reading order.

pub valid_list_has_no_breach : breaches (list_of i32) (tuple (int 1 ∷ int 2 ∷ [])) ≡ []
valid_list_has_no_breach = refl

pub integer_of_another_kind : breaches i32 (raw_integer I64 (pos 1)) ≡ ([], WrongValue) ∷ []
integer_of_another_kind = refl

pub number_outside_of_the_kind : breaches i8 (raw_integer I8 (pos 200)) ≡ ([], WrongValue) ∷ []
number_outside_of_the_kind = refl

pub null_in_an_inner_list : breaches (list_of (list_of i32)) (tuple (tuple (int 1 ∷ []) ∷ tuple (absent ∷ []) ∷ []))
    ≡ (Element 1 ∷ Element 0 ∷ [], NullNotAllowed) ∷ []
null_in_an_inner_list = refl

pub too_few_elements : breaches (fixed_list_of i32 2) (tuple (raw_bool true ∷ [])) ≡ ([], WrongLength) ∷ []
too_few_elements = refl

pub no_elements_of_a_great_many : breaches (fixed_list_of i32 4294967295) (tuple []) ≡ ([], WrongLength) ∷ []
no_elements_of_a_great_many = refl

pub null_in_a_field_of_an_element :
    breaches (list_of (struct_of (codes "a" ∷ []) (i32 ∷ []))) (tuple (tuple (int 1 ∷ []) ∷ tuple (absent ∷ []) ∷ []))
    ≡ (Element 1 ∷ Field 0 ∷ [], NullNotAllowed) ∷ []
null_in_a_field_of_an_element = refl

pub struct_of_too_many_values : breaches (struct_of (codes "a" ∷ []) (i32 ∷ [])) (tuple (int 1 ∷ int 2 ∷ [])) ≡ ([], WrongLength) ∷ []
struct_of_too_many_values = refl

pub entry_with_a_null_key : breaches (map_of i32 (or_null utf8)) (tuple (entry absent (raw_text (codes "v")) ∷ []))
    ≡ (Entry 0 ∷ Key ∷ [], NullNotAllowed) ∷ []
entry_with_a_null_key = refl

pub entry_with_another_value : breaches (map_of i32 (or_null utf8)) (tuple (entry (int 1) absent ∷ entry (int 2) (raw_bool true) ∷ []))
    ≡ (Entry 1 ∷ Value ∷ [], WrongValue) ∷ []
entry_with_another_value = refl

pub entry_that_is_null : breaches (map_of i32 (or_null utf8)) (tuple (absent ∷ [])) ≡ (Entry 0 ∷ [], NullEntry) ∷ []
entry_that_is_null = refl

pub entry_of_three : breaches (map_of i32 (or_null utf8)) (tuple (tuple (int 1 ∷ letter_a ∷ letter_a ∷ []) ∷ []))
    ≡ (Entry 0 ∷ [], WrongLength) ∷ []
entry_of_three = refl

pub entry_that_is_no_tuple : breaches (map_of i32 (or_null utf8)) (tuple (int 1 ∷ [])) ≡ (Entry 0 ∷ [], WrongValue) ∷ []
entry_that_is_no_tuple = refl

pub keys_of_a_sorted_map_in_any_order : breaches (sorted_map_of i32 i32) (tuple (entry (int 2) (int 1) ∷ entry (int 1) (int 1) ∷ [])) ≡ []
keys_of_a_sorted_map_in_any_order = refl

pub union_id_of_no_variant : breaches int_or_string (raw_union 7 (int 1)) ≡ ([], UnknownTypeId) ∷ []
union_id_of_no_variant = refl

pub null_child_of_a_union : breaches int_or_string (raw_union 9 absent) ≡ (Child ∷ [], NullNotAllowed) ∷ []
null_child_of_a_union = refl

pub null_child_where_the_variant_takes_it : breaches int_or_string (raw_union 5 absent) ≡ []
null_child_where_the_variant_takes_it = refl

pub null_in_a_variant : breaches (list_of variant) (tuple (raw_variant (or_null boolean) absent ∷ []))
    ≡ (Element 0 ∷ [], VariantNull) ∷ []
null_in_a_variant = refl

pub wrong_value_in_a_variant : breaches variant (raw_variant i32 (raw_bool true)) ≡ (Inner ∷ [], WrongValue) ∷ []
wrong_value_in_a_variant = refl

-- the variant's own breach, and not the one below it
pub null_in_a_variant_comes_first : breaches variant (raw_variant boolean absent) ≡ ([], VariantNull) ∷ []
null_in_a_variant_comes_first = refl

-- an extension adds no step
pub wrong_value_for_an_extension : breaches (extension_a i32) (raw_bool true) ≡ ([], WrongValue) ∷ []
wrong_value_for_an_extension = refl

pub wrong_value_below_extensions : breaches (extension_a (list_of (extension_b i32))) (tuple (raw_bool true ∷ []))
    ≡ (Element 0 ∷ [], WrongValue) ∷ []
wrong_value_below_extensions = refl

-- two breaches in reading order: the first list is too short and lists none of its own elements, the second is not
pub two_breaches_in_reading_order :
    breaches (list_of (fixed_list_of i32 2)) (tuple (tuple (absent ∷ []) ∷ tuple (int 1 ∷ absent ∷ []) ∷ []))
    ≡ (Element 0 ∷ [], WrongLength) ∷ (Element 1 ∷ Element 1 ∷ [], NullNotAllowed) ∷ []
two_breaches_in_reading_order = refl

pub first_of_two_breaches : first (breaches (a_and_b i32 utf8) (tuple (absent ∷ int 1 ∷ []))) ≡ Some (Field 0 ∷ [], NullNotAllowed)
first_of_two_breaches = refl

pub wrong_value_in_64_lists : breaches (nested_list 64 i32) (nested_tuple 64 (raw_integer I64 (pos 1))) ≡ (replicate 64 (Element 0), WrongValue) ∷ []
wrong_value_in_64_lists = refl

pub no_breach_in_64_lists : breaches (nested_list 64 i32) (nested_tuple 64 (int 1)) ≡ []
no_breach_in_64_lists = refl

-- Order: of the contents on the left and on the right.

pub null_is_below_a_number : order null (number 0) ≡ Some Less
null_is_below_a_number = refl

pub null_equals_null : order null null ≡ Some Equal
null_equals_null = refl

pub false_is_below_true : order (truth false) (truth true) ≡ Some Less
false_is_below_true = refl

pub numbers_by_size : order (whole (negsuc 4)) (number 3) ≡ Some Less
numbers_by_size = refl

pub number_against_text : order (number 10) (text (codes "hello")) ≡ None
number_against_text = refl

pub text_beginning_is_below : order (text (codes "ab")) (text (codes "abc")) ≡ Some Less
text_beginning_is_below = refl

pub texts_by_bytes : order (text (codes "b")) (text (codes "abc")) ≡ Some Greater
texts_by_bytes = refl

pub strings_by_bytes : order (string (1 ∷ 255 ∷ [])) (string (2 ∷ [])) ≡ Some Less
strings_by_bytes = refl

pub text_against_its_bytes : order (text (codes "a")) (string (codes "a")) ≡ None
text_against_its_bytes = refl

pub shorter_sequence_is_below : order (parts (number 1 ∷ [])) (parts (number 1 ∷ number 2 ∷ [])) ≡ Some Less
shorter_sequence_is_below = refl

-- the second place decides before the lengths do
pub first_place_that_differs : order (parts (null ∷ number 2 ∷ [])) (parts (null ∷ number 1 ∷ number 9 ∷ [])) ≡ Some Greater
first_place_that_differs = refl

pub entries_key_then_value : order (parts (parts (number 1 ∷ text (codes "a") ∷ []) ∷ [])) (parts (parts (number 1 ∷ null ∷ []) ∷ [])) ≡ Some Greater
entries_key_then_value = refl

pub children_of_one_id : order (tagged 5 (number 1)) (tagged 5 (number 2)) ≡ Some Less
children_of_one_id = refl

pub children_of_two_ids : order (tagged 5 (number 1)) (tagged 9 (number 2)) ≡ None
children_of_two_ids = refl

pub null_child_is_above_null : order (tagged 5 null) null ≡ Some Greater
null_child_is_above_null = refl

pub two_typed_children : order (typed u32 (number 42)) (typed u32 (number 42)) ≡ None
two_typed_children = refl

pub no_places_against_a_typed_child : order (parts []) (parts (typed i32 (number 1) ∷ [])) ≡ Some Less
no_places_against_a_typed_child = refl

pub sequence_of_a_typed_child_against_itself : order (parts (typed i32 (number 1) ∷ [])) (parts (typed i32 (number 1) ∷ [])) ≡ None
sequence_of_a_typed_child_against_itself = refl

pub place_before_a_typed_child_decides :
    order (parts (number 1 ∷ typed i32 (number 1) ∷ [])) (parts (number 2 ∷ typed i32 (number 1) ∷ [])) ≡ Some Less
place_before_a_typed_child_decides = refl

-- Equal contents, and types that are the same up to nullability.

pub typed_children_of_nullable_and_other : EqualContents (typed u32 (number 42)) (typed (or_null u32) (number 42))
typed_children_of_nullable_and_other = (refl, refl)

pub typed_children_of_two_kinds : ¬ (EqualContents (typed u32 (number 42)) (typed i32 (number 42)))
typed_children_of_two_kinds h = tell_apart (is_integer_of U32) h.0 tt

pub sequence_of_a_typed_child_equals_itself : EqualContents (parts (typed i32 (number 1) ∷ [])) (parts (typed i32 (number 1) ∷ []))
sequence_of_a_typed_child_equals_itself = ((refl, refl), tt)

pub null_child_is_no_outer_null : ¬ (EqualContents (tagged 5 null) null)
null_child_is_no_outer_null h = h

pub text_is_not_its_bytes : ¬ (EqualContents (text (codes "a")) (string (codes "a")))
text_is_not_its_bytes h = h

pub one_of_two_kinds_is_one_number : content (raw_integer I32 (pos 1)) ≡ content (raw_integer U64 (pos 1))
one_of_two_kinds_is_one_number = refl

pub map_with_nullable_values_is_the_same_type : Same (map_of i32 (or_null utf8)) (map_of i32 utf8)
map_with_nullable_values_is_the_same_type = refl

pub extension_over_a_nullable_storage_is_the_same_type : Same (extension_a i32) (extension_a (or_null i32))
extension_over_a_nullable_storage_is_the_same_type = refl

pub sorted_map_is_another_type : ¬ (Same sorted_map unsorted_map)
sorted_map_is_another_type h = tell_apart is_sorted_map h tt

-- Integer types: what each holds, and what is kept of a number outside.

pub u8_holds_0_to_255 : (in_range U8 (negsuc 0) ≡ false) × (in_range U8 (pos 0) ≡ true) × (in_range U8 (pos 255) ≡ true) × (in_range U8 (pos 256) ≡ false)
u8_holds_0_to_255 = (refl, refl, refl, refl)

pub i8_holds_minus_128_to_127 :
    (in_range I8 (negsuc 128) ≡ false) × (in_range I8 (negsuc 127) ≡ true) × (in_range I8 (pos 127) ≡ true) × (in_range I8 (pos 128) ≡ false)
i8_holds_minus_128_to_127 = (refl, refl, refl, refl)

pub u64_ends_below_2_to_the_64 : (in_range U64 (pos 18446744073709551615) ≡ true) × (in_range U64 (pos 18446744073709551616) ≡ false)
u64_ends_below_2_to_the_64 = (refl, refl)

pub i64_ends_below_2_to_the_63 :
    (in_range I64 (negsuc 9223372036854775807) ≡ true) × (in_range I64 (negsuc 9223372036854775808) ≡ false)
    × (in_range I64 (pos 9223372036854775807) ≡ true) × (in_range I64 (pos 9223372036854775808) ≡ false)
i64_ends_below_2_to_the_63 = (refl, refl, refl, refl)

pub minus_one_read_as_u8 : wrapped U8 (negsuc 0) ≡ pos 255
minus_one_read_as_u8 = refl

pub number_255_read_as_i8 : wrapped I8 (pos 255) ≡ negsuc 0
unfolding int_wrap
number_255_read_as_i8 = refl

pub number_of_the_kind_stays : wrapped I8 (negsuc 127) ≡ negsuc 127
unfolding int_wrap
number_of_the_kind_stays = refl

pub least_i64_read_as_u64 : wrapped U64 (negsuc 9223372036854775807) ≡ pos 9223372036854775808
least_i64_read_as_u64 = refl
