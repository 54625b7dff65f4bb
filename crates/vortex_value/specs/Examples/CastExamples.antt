-- Worked cases of casts, each a theorem: what the table allows, what the target has, and a chain. Types, values and
-- contents are written in the words of Examples.
use Rattle.std.proofs.Common.{ap, sym, ◌∙◌, subst}
use Rattle.std.proofs.Math.Facts.{leb_yes, yes_leb}
use Rattle.std.specs.Prelude.{◌≡◌, ◌==◌, ◌^◌, ℕ, zero, suc, ℤ, pos, Bool, true, false, not, T, leb, List, [], ◌∷◌, Option, Some, None, refl, codes}
use Rattle.vortex_dtype.specs.TypeTree.{TypeTree, null_type, integer_type, utf8_type, list_type, fixed_size_list_type, struct_type, union_type, extension_type, TypeTrees, type_then, IsNullable, storage, Same}
use Rattle.vortex_dtype.specs.declared.nullability.Nullability.TheVariants.{NonNullable}
use Rattle.vortex_dtype.specs.declared.nullability.Nullability.{Nullability}
use Rattle.vortex_dtype.specs.declared.ptype.PType.TheVariants.{U8, U32, U64, I8, I16, I32, I64}
use Rattle.vortex_dtype.specs.declared.ptype.PType.{PType}
use Rattle.vortex_pvalue.specs.Numbers.{InRange}
use Rattle.vortex_value.specs.Casts.{IsNull, IsInteger, IsExtension, Wraps, Sorts, Row, same_type, a_null, into_extension, integers, lists, maps, structs, unions, from_extension, Allows, Has, CanCast, IsCast}
use Rattle.vortex_value.specs.Chains.{Runs}
use Rattle.vortex_value.specs.Values.Content.{Content, null, truth, whole, text, sequence, tagged, typed, Contents, no_contents, content_then, content, contents}
use Rattle.vortex_value.specs.Values.RawTree.{RawTree, absent, raw_bool, raw_integer, raw_text, raw_tuple, raw_union, raw_variant, RawTrees, no_raws, raw_then, count}
use Rattle.vortex_value.specs.Validity.{EachValid, HasType, Valid, type_with}
use Rattle.vortex_value.specs.Examples.ValueExamples.{i8, i16, i32, i64, u8, u32, u64, boolean, utf8, binary, variant, or_null, list_of, fixed_list_of, map_of, struct_of, union_of, extension_a, extension_b, a_and_b, int_or_string, unsorted_map, sorted_map, tuple, entry, int, parts, number, nested_list, nested_tuple, nested_parts, tell_apart, no_null, is_integer_of, is_sorted_map, i32_valid}

-- What the proofs use. A content that a type has is known by cases. A null asks for a nullable type, and a number for one
-- in the type's range. A sequence asks for parts that the element type has, and for as many as the size says.

abbrev is_null : Content → Bool
is_null null = true
is_null _ = false

abbrev is_extension : TypeTree → Bool
is_extension (extension_type id metadata t) = true
is_extension _ = false

abbrev is_integer : TypeTree → Bool
is_integer (integer_type k n) = true
is_integer _ = false

abbrev first_variant : TypeTree → TypeTree
first_variant (union_type names (type_then t ts) ids n) = t
first_variant _ = null_type

abbrev number_in : Content → ℤ
number_in (whole z) = z
number_in _ = pos 0

abbrev parts_in : Content → Contents
parts_in (sequence cs) = cs
parts_in _ = no_contents

abbrev first_in : Contents → Content
first_in (content_then c cs) = c
first_in no_contents = null

abbrev rest_in : Contents → Contents
rest_in (content_then c cs) = cs
rest_in no_contents = no_contents

abbrev has_parts : Contents → Bool
has_parts (content_then c cs) = true
has_parts no_contents = false

abbrev count_parts : Contents → ℕ
count_parts (content_then c cs) = suc (count_parts cs)
count_parts no_contents = 0

null_needs_nullable : (t : TypeTree) → Has t null → IsNullable (storage t)
null_needs_nullable t h = at h.value h.valid h.same
  where
    at : (v : RawTree) → Valid t v → content v ≡ null → IsNullable (storage t)
    at absent a e = a
    at _ a e = absurd (tell_apart is_null (sym e) tt)

number_needs_range : (k : PType) (n : Nullability) (z : ℤ) → Has (integer_type k n) (whole z) → InRange k z
number_needs_range k n z h = at h.value h.valid h.same
  where
    at : (v : RawTree) → Valid (integer_type k n) v → content v ≡ whole z → InRange k z
    at absent a e = absurd (tell_apart is_null e tt)
    at (raw_integer l w) a e = subst (InRange k) (ap number_in e) a.1
    at _ a e = absurd a

abbrev EachHas : TypeTree → Contents → Type 0
EachHas e no_contents = Unit {0}
EachHas e (content_then c cs) = Has e c × EachHas e cs

parts_need_elements : (e : TypeTree) (vs : RawTrees) (cs : Contents) → EachValid e vs → contents vs ≡ cs → EachHas e cs
parts_need_elements e no_raws no_contents a q = tt
parts_need_elements e (raw_then v vs) (content_then c cs) a q =
    (record { value = v; valid = a.0; same = ap first_in q }, parts_need_elements e vs cs a.1 (ap rest_in q))
parts_need_elements e no_raws (content_then c cs) a q = absurd (tell_apart has_parts (sym q) tt)
parts_need_elements e (raw_then v vs) no_contents a q = absurd (tell_apart has_parts q tt)

list_needs_elements : (e : TypeTree) (n : Nullability) (cs : Contents) → Has (list_type e n) (sequence cs) → EachHas e cs
list_needs_elements e n cs h = at h.value h.valid h.same
  where
    at : (v : RawTree) → Valid (list_type e n) v → content v ≡ sequence cs → EachHas e cs
    at absent a q = absurd (tell_apart is_null q tt)
    at (raw_tuple vs) a q = parts_need_elements e vs cs a (ap parts_in q)
    at _ a q = absurd a

as_many_contents : (vs : RawTrees) → count_parts (contents vs) ≡ count vs
as_many_contents no_raws = refl
as_many_contents (raw_then v vs) = ap suc (as_many_contents vs)

fixed_list_needs_size : (e : TypeTree) (size : ℕ) (n : Nullability) (cs : Contents) → Has (fixed_size_list_type e size n) (sequence cs) → count_parts cs ≡ size
fixed_list_needs_size e size n cs h = at h.value h.valid h.same
  where
    at : (v : RawTree) → Valid (fixed_size_list_type e size n) v → content v ≡ sequence cs → count_parts cs ≡ size
    at absent a q = absurd (tell_apart is_null q tt)
    at (raw_tuple vs) a q = ap (λ c. count_parts (parts_in c)) (sym q) ∙ (as_many_contents vs ∙ a.0)
    at _ a q = absurd a

-- a union has the content of a variant if the type that the id gives has the child
child_needs_type : (names : List (List ℕ)) (ts : TypeTrees) (ids : List ℕ) (n : Nullability) (id : ℕ) (c : Content)
    → Has (union_type names ts ids n) (tagged id c) → HasType (type_with id ids ts) (λ t. Has t c)
child_needs_type names ts ids n id c h = at h.value h.valid h.same
  where
    inside : (o : Option TypeTree) (v : RawTree) → HasType o (λ t. Valid t v) → content v ≡ c → HasType o (λ t. Has t c)
    inside None v a e = a
    inside (Some t) v a e = record { value = v; valid = a; same = e }

    id_in : Content → ℕ
    id_in (tagged i d) = i
    id_in _ = 0

    child_in : Content → Content
    child_in (tagged i d) = d
    child_in _ = null

    is_tagged : Content → Bool
    is_tagged (tagged i d) = true
    is_tagged _ = false

    at : (v : RawTree) → Valid (union_type names ts ids n) v → content v ≡ tagged id c → HasType (type_with id ids ts) (λ t. Has t c)
    at absent a e = absurd (tell_apart is_tagged (sym e) tt)
    at (raw_union i v) a e = inside (type_with id ids ts) v (subst (λ j. HasType (type_with j ids ts) (λ t. Valid t v)) (ap id_in e) a) (ap child_in e)
    at _ a e = absurd a

-- no row applies if none of the nine does
no_row : {s t : TypeTree} {c : Content} {wrapped elements entries fields children : Type 0} → ¬ (Same s t) → (IsNull c → Sorts s t) → ¬ wrapped
    → (IsInteger s → ¬ (IsInteger t)) → ¬ elements → ¬ entries → ¬ fields → ¬ children → (Wraps s t → IsExtension t)
    → ¬ (Row s t c wrapped elements entries fields children)
no_row a b w i e m f u x (same_type h) = a h
no_row a b w i e m f u x (a_null h n) = n (b h)
no_row a b w i e m f u x (into_extension h) = w h
no_row a b w i e m f u x (integers h k) = i h k
no_row a b w i e m f u x (lists h) = e h
no_row a b w i e m f u x (maps h) = m h
no_row a b w i e m f u x (structs h) = f h
no_row a b w i e m f u x (unions h) = u h
no_row a b w i e m f u x (from_extension h n) = n (x h)

no : ⊥ → ⊥
no h = h

-- integers: the number is kept, if the target has it

pub thousand_of_i32_to_i16 : CanCast i32 i16 (number 1000)
thousand_of_i32_to_i16 = (integers tt tt, record { value = raw_integer I16 (pos 1000); valid = (refl, record { sfits = leb_yes tt }); same = refl })

pub thousand_of_i32_to_u64 : CanCast i32 u64 (number 1000)
thousand_of_i32_to_u64 = (integers tt tt, record { value = raw_integer U64 (pos 1000); valid = (refl, leb_yes tt); same = refl })

pub thousand_of_i32_to_i8_is_allowed : Allows i32 i8 (number 1000)
thousand_of_i32_to_i8_is_allowed = integers tt tt

pub i8_has_no_thousand : ¬ (Has i8 (number 1000))
i8_has_no_thousand h = yes_leb (number_needs_range I8 NonNullable (pos 1000) h).sfits

pub no_number_of_i32_becomes_null : (z : ℤ) → ¬ (Allows i32 null_type (whole z))
no_number_of_i32_becomes_null z = no_row (λ h. tell_apart is_integer h tt) absurd no (λ a b. b) no no no no absurd

-- nulls: to every type that takes one, but for maps that would become sorted

abbrev the_null : {t : TypeTree} → IsNullable (storage t) → Has t null
the_null p = record { value = absent; valid = p; same = refl }

pub null_of_i32_to_nullable_i8 : CanCast (or_null i32) (or_null i8) null
null_of_i32_to_nullable_i8 = (a_null tt no, the_null refl)

pub null_of_i32_to_i8_is_allowed : Allows (or_null i32) i8 null
null_of_i32_to_i8_is_allowed = a_null tt no

pub i8_has_no_null : ¬ (Has i8 null)
i8_has_no_null h = no_null (null_needs_nullable i8 h)

pub null_of_i32_to_null_type : CanCast (or_null i32) null_type null
null_of_i32_to_null_type = (a_null tt no, the_null refl)

pub null_of_null_type_to_nullable_u64 : CanCast null_type (or_null u64) null
null_of_null_type_to_nullable_u64 = (a_null tt no, the_null refl)

pub null_of_i32_to_nullable_utf8 : CanCast (or_null i32) (or_null utf8) null
null_of_i32_to_nullable_utf8 = (a_null tt no, the_null refl)

pub null_of_an_unsorted_map_to_the_sorted_one_is_refused : ¬ (Allows unsorted_map sorted_map null)
null_of_an_unsorted_map_to_the_sorted_one_is_refused =
    no_row (λ h. tell_apart (λ t. not (is_sorted_map t)) h tt) (λ h. tt) no (λ a b. a) no (λ h. h.1) no no absurd

pub null_of_an_unsorted_map_to_nullable_boolean : CanCast unsorted_map (or_null boolean) null
null_of_an_unsorted_map_to_nullable_boolean = (a_null tt no, the_null refl)

-- so the null reaches the sorted map by a way round
pub null_of_nullable_boolean_to_a_sorted_map : CanCast (or_null boolean) sorted_map null
null_of_nullable_boolean_to_a_sorted_map = (a_null tt no, the_null refl)

pub null_of_an_unsorted_map_to_an_extension_over_the_sorted_one : CanCast unsorted_map (extension_a sorted_map) null
null_of_an_unsorted_map_to_an_extension_over_the_sorted_one = (a_null tt no, the_null refl)

pub struct_with_that_null_to_one_with_the_sorted_map_is_refused :
    ¬ (Allows (struct_of (codes "m" ∷ []) (unsorted_map ∷ [])) (struct_of (codes "m" ∷ []) (sorted_map ∷ [])) (parts (null ∷ [])))
struct_with_that_null_to_one_with_the_sorted_map_is_refused =
    no_row (λ h. tell_apart (λ t. not (is_sorted_map (first_field t))) h tt) absurd no (λ a b. a) no no
    (λ h. null_of_an_unsorted_map_to_the_sorted_one_is_refused h.0) no absurd
  where
    first_field : TypeTree → TypeTree
    first_field (struct_type names (type_then t ts) n) = t
    first_field _ = null_type

pub null_of_an_extension_over_an_unsorted_map_to_the_sorted_one : CanCast (extension_a unsorted_map) sorted_map null
null_of_an_extension_over_an_unsorted_map_to_the_sorted_one = (a_null tt no, the_null refl)

-- an empty map is no null, and is refused too, also on the way into an extension

pub empty_unsorted_map_to_the_sorted_one_is_refused : ¬ (Allows unsorted_map sorted_map (parts []))
empty_unsorted_map_to_the_sorted_one_is_refused = no_row (λ h. tell_apart (λ t. not (is_sorted_map t)) h tt) absurd no (λ a b. a) no (λ h. h.0 tt) no no absurd

pub empty_unsorted_map_to_an_extension_over_the_sorted_one_is_refused : ¬ (Allows unsorted_map (extension_a sorted_map) (parts []))
empty_unsorted_map_to_an_extension_over_the_sorted_one_is_refused =
    no_row (λ h. tell_apart (λ t. not (is_extension t)) h tt) absurd (λ h. empty_unsorted_map_to_the_sorted_one_is_refused h.1) (λ a b. a) no no no no absurd

-- lists: element by element, whether of a fixed size or not

pub empty_list_of_boolean_to_list_of_utf8 : CanCast (list_of boolean) (list_of utf8) (parts [])
empty_list_of_boolean_to_list_of_utf8 = (lists tt, record { value = tuple []; valid = tt; same = refl })

abbrev one_and_two : Content
one_and_two = parts (number 1 ∷ number 2 ∷ [])

abbrev one_and_two_of : PType → RawTree
one_and_two_of k = tuple (raw_integer k (pos 1) ∷ raw_integer k (pos 2) ∷ [])

list_of_i64_takes_them : Valid (list_of i64) (one_and_two_of I64)
list_of_i64_takes_them = ((refl, record { sfits = leb_yes tt }), ((refl, record { sfits = leb_yes tt }), tt))

pub list_to_a_fixed_list_of_its_size : CanCast (list_of u8) (fixed_list_of i64 2) one_and_two
list_to_a_fixed_list_of_its_size =
    (lists (integers tt tt, (integers tt tt, tt)), record { value = one_and_two_of I64; valid = (refl, list_of_i64_takes_them); same = refl })

pub fixed_list_of_three_has_no_two : ¬ (Has (fixed_list_of i64 3) one_and_two)
fixed_list_of_three_has_no_two h = tell_apart (λ n. n == 2) (fixed_list_needs_size i64 3 NonNullable _ h) tt

pub list_with_300_to_list_of_u8_is_allowed : Allows (list_of i32) (list_of u8) (parts (number 1 ∷ number 300 ∷ []))
list_with_300_to_list_of_u8_is_allowed = lists (integers tt tt, (integers tt tt, tt))

pub list_of_u8_has_no_300 : ¬ (Has (list_of u8) (parts (number 1 ∷ number 300 ∷ [])))
list_of_u8_has_no_300 h = yes_leb (number_needs_range U8 NonNullable (pos 300) (list_needs_elements u8 NonNullable _ h).1.0)

-- the same type up to nullability: the null inside is what the target does not have

pub list_with_a_null_to_one_without_is_allowed : Allows (list_of (or_null i32)) (list_of i32) (parts (null ∷ []))
list_with_a_null_to_one_without_is_allowed = same_type refl

pub list_of_i32_has_no_null_element : ¬ (Has (list_of i32) (parts (null ∷ [])))
list_of_i32_has_no_null_element h = no_null (null_needs_nullable i32 (list_needs_elements i32 NonNullable _ h).0)

pub list_without_a_null_to_one_that_takes_none : CanCast (list_of (or_null i32)) (list_of i32) (parts (number 7 ∷ []))
list_without_a_null_to_one_that_takes_none = (same_type refl, record { value = tuple (int 7 ∷ []); valid = (i32_valid 7 tt, tt); same = refl })

nested_is_allowed : (n : ℕ) → Allows (nested_list n i32) (nested_list n i64) (nested_parts n (number 1))
nested_is_allowed zero = integers tt tt
nested_is_allowed (suc n) = lists (nested_is_allowed n, tt)

nested_has_it : (n : ℕ) → Has (nested_list n i64) (nested_parts n (number 1))
nested_has_it n = record { value = nested_tuple n one; valid = valid n; same = same n }
  where
    one : RawTree
    one = raw_integer I64 (pos 1)

    valid : (n : ℕ) → Valid (nested_list n i64) (nested_tuple n one)
    valid zero = (refl, record { sfits = leb_yes tt })
    valid (suc n) = (valid n, tt)

    same : (n : ℕ) → content (nested_tuple n one) ≡ nested_parts n (number 1)
    same zero = refl
    same (suc n) = ap (λ c. parts (c ∷ [])) (same n)

pub lists_nested_64_deep : CanCast (nested_list 64 i32) (nested_list 64 i64) (nested_parts 64 (number 1))
lists_nested_64_deep = (nested_is_allowed 64, nested_has_it 64)

-- structs: by place, with the names of the target

pub struct_by_place : CanCast (a_and_b i32 i32) (struct_of (codes "b" ∷ codes "a" ∷ []) (i64 ∷ i64 ∷ [])) one_and_two
struct_by_place =
    (structs (integers tt tt, (integers tt tt, tt)), record { value = one_and_two_of I64; valid = list_of_i64_takes_them; same = refl })

pub struct_of_a_null_and_a_list :
    CanCast (a_and_b (or_null i32) (list_of u8)) (struct_of (codes "x" ∷ codes "y" ∷ []) (or_null utf8 ∷ fixed_list_of i64 2 ∷ []))
    (parts (null ∷ one_and_two ∷ []))
struct_of_a_null_and_a_list = (
  structs (a_null tt no, (list_to_a_fixed_list_of_its_size.0, tt)),
  record {
    value = tuple (absent ∷ one_and_two_of I64 ∷ []);
    valid = (refl, ((refl, list_of_i64_takes_them), tt));
    same = refl;
  },
)

pub structs_of_other_counts_are_refused : ¬ (Allows (a_and_b i32 i32) (struct_of (codes "a" ∷ []) (i32 ∷ [])) one_and_two)
structs_of_other_counts_are_refused = no_row (λ h. tell_apart has_two_fields h tt) absurd no (λ a b. a) no no (λ h. h.1) no absurd
  where
    has_two_fields : TypeTree → Bool
    has_two_fields (struct_type names (type_then s (type_then t ts)) n) = true
    has_two_fields _ = false

-- extensions: into any, and out of one to its storage

pub extension_to_another_over_the_same_storage : CanCast (extension_a i32) (extension_b i32) (number 7)
extension_to_another_over_the_same_storage = (into_extension (no, from_extension refl no), record { value = int 7; valid = i32_valid 7 tt; same = refl })

pub extension_to_the_nullable_one : CanCast (extension_a i32) (extension_a (or_null i32)) (number 7)
extension_to_the_nullable_one = (same_type refl, record { value = int 7; valid = i32_valid 7 tt; same = refl })

pub extension_to_its_storage : CanCast (extension_a i32) i32 (number 7)
extension_to_its_storage = (from_extension refl no, record { value = int 7; valid = i32_valid 7 tt; same = refl })

pub extension_to_another_integer_kind_is_refused : ¬ (Allows (extension_a i32) i64 (number 7))
extension_to_another_integer_kind_is_refused =
    no_row (λ h. tell_apart is_extension h tt) absurd no (λ a b. a) no no no no (λ h. tell_apart (is_integer_of I32) h tt)

pub extension_unwraps_one_level_alone : ¬ (Allows (extension_a (extension_b i32)) (extension_b i32) (number 7))
extension_unwraps_one_level_alone =
    no_row (λ h. tell_apart (λ t. is_extension (storage_once t)) h tt) absurd
    (λ h. no_row (λ e. tell_apart is_extension e tt) absurd no (λ a b. a) no no no no (λ e. tell_apart is_extension e tt) h.1) (λ a b. a) no no no no (λ h. tt)
  where
    storage_once : TypeTree → TypeTree
    storage_once (extension_type id metadata t) = t
    storage_once t = t

pub null_of_an_extension_to_the_inner_one :
    CanCast (extension_a (extension_b (or_null i32))) (extension_b (or_null i32)) null
null_of_an_extension_to_the_inner_one = (a_null tt no, the_null refl)

pub true_into_extensions_at_any_depth : CanCast boolean (extension_a (extension_b (or_null boolean))) (truth true)
true_into_extensions_at_any_depth =
    (into_extension (no, into_extension (no, same_type refl)), record { value = raw_bool true; valid = tt; same = refl })

-- strings and variants: to their own type, and extensions over it

pub text_to_binary_is_refused : ¬ (Allows utf8 binary (text (codes "a")))
text_to_binary_is_refused = no_row (λ h. tell_apart is_utf8 h tt) absurd no (λ a b. a) no no no no absurd
  where
    is_utf8 : TypeTree → Bool
    is_utf8 (utf8_type n) = true
    is_utf8 _ = false

pub variant_of_a_u32_to_u32_is_refused : ¬ (Allows variant u32 (typed u32 (number 42)))
variant_of_a_u32_to_u32_is_refused = no_row (λ h. tell_apart (λ t. not (is_integer t)) h tt) absurd no (λ a b. a) no no no no absurd

pub variant_to_a_nullable_variant : CanCast variant (or_null variant) (typed u32 (number 42))
variant_to_a_nullable_variant =
    (same_type refl, record { value = raw_variant u32 (raw_integer U32 (pos 42)); valid = (tt, (refl, leb_yes tt)); same = refl })

-- maps: entry by entry

pub sorted_map_to_the_unsorted_one : CanCast sorted_map unsorted_map (parts (parts (number 1 ∷ text (codes "one") ∷ []) ∷ []))
sorted_map_to_the_unsorted_one = (
  maps (no, (integers tt tt, same_type refl, tt)),
  record {
    value = tuple (entry (int 1) (raw_text (codes "one")) ∷ []);
    valid = (i32_valid 1 tt, tt, tt);
    same = refl;
  },
)

-- unions with equal ids: the selected child, between the two types of its id

-- equal ids, with other names and types
abbrev n_or_s : TypeTree → TypeTree → TypeTree
n_or_s s t = union_of (codes "n" ∷ codes "s" ∷ []) (5 ∷ 9 ∷ []) (s ∷ t ∷ [])

i64_valid : (n : ℕ) → T (leb (suc n) (2 ^ 63)) → Valid i64 (raw_integer I64 (pos n))
i64_valid n h = (refl, record { sfits = leb_yes h })

abbrev has_42 : Has (n_or_s (or_null i64) (or_null utf8)) (tagged 5 (number 42))
has_42 = record { value = raw_union 5 (raw_integer I64 (pos 42)); valid = i64_valid 42 tt; same = refl }

pub number_of_a_union_to_a_wider_one : CanCast int_or_string (n_or_s (or_null i64) (or_null utf8)) (tagged 5 (number 42))
number_of_a_union_to_a_wider_one = (unions (refl, integers tt tt), has_42)

pub inner_null_to_a_type_that_takes_it : CanCast int_or_string (n_or_s (or_null i64) (or_null utf8)) (tagged 5 null)
inner_null_to_a_type_that_takes_it = (unions (refl, a_null tt no), record { value = raw_union 5 absent; valid = refl; same = refl })

pub inner_null_to_a_type_that_takes_none_is_allowed : Allows int_or_string (n_or_s i64 utf8) (tagged 5 null)
inner_null_to_a_type_that_takes_none_is_allowed = unions (refl, a_null tt no)

pub union_of_i64_has_no_inner_null : ¬ (Has (n_or_s i64 utf8) (tagged 5 null))
union_of_i64_has_no_inner_null h = no_null (null_needs_nullable i64 (child_needs_type _ _ (5 ∷ 9 ∷ []) NonNullable 5 null h))

pub thousand_of_a_union_to_i8_is_allowed : Allows int_or_string (n_or_s i8 utf8) (tagged 5 (number 1000))
thousand_of_a_union_to_i8_is_allowed = unions (refl, integers tt tt)

pub union_of_i8_has_no_thousand : ¬ (Has (n_or_s i8 utf8) (tagged 5 (number 1000)))
union_of_i8_has_no_thousand h = i8_has_no_thousand (child_needs_type _ _ (5 ∷ 9 ∷ []) NonNullable 5 (number 1000) h)

-- no integer goes to a truth value, but this one is not there
pub only_the_selected_variant_has_to_convert : CanCast int_or_string (n_or_s boolean utf8) (tagged 9 (text (codes "x")))
only_the_selected_variant_has_to_convert = (unions (refl, same_type refl), record { value = raw_union 9 (raw_text (codes "x")); valid = tt; same = refl })

pub number_of_a_union_to_a_boolean_is_refused : ¬ (Allows int_or_string (n_or_s boolean utf8) (tagged 5 (number 42)))
number_of_a_union_to_a_boolean_is_refused =
    no_row (λ h. tell_apart (λ t. is_integer (first_variant t)) h tt) absurd no (λ a b. a) no no no
    (λ h. no_row (λ e. tell_apart is_integer e tt) absurd no (λ a b. b) no no no no absurd h.1) absurd

pub union_to_one_of_its_ids_in_another_order_is_refused :
    ¬ (Allows int_or_string (union_of (codes "s" ∷ codes "n" ∷ []) (9 ∷ 5 ∷ []) (utf8 ∷ or_null i32 ∷ [])) (tagged 5 (number 42)))
union_to_one_of_its_ids_in_another_order_is_refused =
    no_row (λ h. tell_apart (λ t. is_integer (first_variant t)) h tt) absurd no (λ a b. a) no no no (λ h. tell_apart begins_with_five h.0 tt) absurd
  where
    begins_with_five : List ℕ → Bool
    begins_with_five (id ∷ ids) = id == 5
    begins_with_five [] = false

pub struct_of_a_union :
    CanCast (struct_of (codes "u" ∷ []) (int_or_string ∷ [])) (struct_of (codes "v" ∷ []) (n_or_s (or_null i64) (or_null utf8) ∷ [])) (parts (tagged 5 (number 42) ∷ []))
struct_of_a_union = (
  structs (number_of_a_union_to_a_wider_one.0, tt),
  record {
    value = tuple (has_42.value ∷ []);
    valid = (has_42.valid, tt);
    same = refl;
  },
)

pub null_of_a_union_to_a_nullable_one : CanCast int_or_string (or_null (n_or_s (or_null i64) (or_null utf8))) null
null_of_a_union_to_a_nullable_one = (a_null tt no, the_null refl)

pub null_of_a_union_to_one_that_takes_none_is_allowed : Allows int_or_string (n_or_s (or_null i64) (or_null utf8)) null
null_of_a_union_to_one_that_takes_none_is_allowed = a_null tt no

pub union_that_takes_no_null_has_none : ¬ (Has (n_or_s (or_null i64) (or_null utf8)) null)
union_that_takes_no_null_has_none h = no_null (null_needs_nullable (n_or_s (or_null i64) (or_null utf8)) h)

pub list_of_a_union : CanCast (list_of int_or_string) (list_of (n_or_s (or_null i64) (or_null utf8))) (parts (tagged 5 (number 42) ∷ []))
list_of_a_union = (lists (number_of_a_union_to_a_wider_one.0, tt), record { value = tuple (has_42.value ∷ []); valid = (has_42.valid, tt); same = refl })

pub map_of_a_union :
    CanCast (map_of i32 int_or_string) (map_of i64 (n_or_s (or_null i64) (or_null utf8))) (parts (parts (number 1 ∷ tagged 5 (number 42) ∷ []) ∷ []))
map_of_a_union = (
  maps (no, (integers tt tt, number_of_a_union_to_a_wider_one.0, tt)),
  record {
    value = tuple (entry (raw_integer I64 (pos 1)) has_42.value ∷ []);
    valid = (i64_valid 1 tt, has_42.valid, tt);
    same = refl;
  },
)

pub union_to_an_extension_over_it : CanCast int_or_string (extension_a int_or_string) (tagged 5 (number 42))
union_to_an_extension_over_it = (into_extension (no, same_type refl), record { value = raw_union 5 (int 42); valid = i32_valid 42 tt; same = refl })

pub union_to_an_extension_over_a_wider_one : CanCast int_or_string (extension_a (n_or_s (or_null i64) (or_null utf8))) (tagged 5 (number 42))
union_to_an_extension_over_a_wider_one =
    (into_extension (no, number_of_a_union_to_a_wider_one.0), record { value = has_42.value; valid = has_42.valid; same = refl })

-- an extension goes to its storage alone
pub extension_over_a_union_to_a_wider_one_is_refused :
    ¬ (Allows (extension_a int_or_string) (n_or_s (or_null i64) (or_null utf8)) (tagged 5 (number 42)))
extension_over_a_union_to_a_wider_one_is_refused =
    no_row (λ h. tell_apart is_extension h tt) absurd no (λ a b. a) no no no no (λ h. tell_apart (λ t. is_integer_of I32 (first_variant t)) h tt)

-- what a variant holds keeps its type
pub variant_of_a_union_to_a_wider_one_is_refused :
    ¬ (Allows variant (n_or_s (or_null i64) (or_null utf8)) (typed int_or_string (tagged 5 (number 42))))
variant_of_a_union_to_a_wider_one_is_refused = no_row (λ h. tell_apart (λ t. not (is_union t)) h tt) absurd no (λ a b. a) no no no no absurd
  where
    is_union : TypeTree → Bool
    is_union (union_type names ts ids n) = true
    is_union _ = false

-- Chains: each step is a cast of one content.

-- a list of i32 by way of an extension over a list of i64 to a fixed list of u8
pub list_by_an_extension_to_a_fixed_list :
    Runs (list_of i32) (one_and_two_of I32) (extension_a (list_of i64)) (list_of i64 ∷ fixed_list_of u8 2 ∷ []) (one_and_two_of U8)
list_by_an_extension_to_a_fixed_list = record {
  starts = (i32_valid 1 tt, (i32_valid 2 tt, tt));
  ends = (refl, ((refl, leb_yes tt), ((refl, leb_yes tt), tt)));
  same = refl;
  steps = (
    into_extension (no, lists each),
    has_i64 list_of_i64_takes_them,
    (from_extension refl no, has_i64 list_of_i64_takes_them, (lists each, has_u8, tt)),
  );
}
  where
    each : {k l : PType} → Allows (integer_type k NonNullable) (integer_type l NonNullable) (number 1) × (Allows (integer_type k NonNullable) (integer_type l NonNullable) (number 2) × Unit {0})
    each = (integers tt tt, (integers tt tt, tt))

    has_i64 : {t : TypeTree} → Valid t (one_and_two_of I64) → Has t one_and_two
    has_i64 h = record { value = one_and_two_of I64; valid = h; same = refl }

    has_u8 : Has (fixed_list_of u8 2) one_and_two
    has_u8 = record { value = one_and_two_of U8; valid = (refl, ((refl, leb_yes tt), ((refl, leb_yes tt), tt))); same = refl }

-- a union by way of wider variants is what the direct cast gives
pub union_by_a_wider_one : Runs int_or_string (raw_union 5 (int 42)) (n_or_s (or_null i64) (or_null utf8)) (n_or_s i8 utf8 ∷ []) (raw_union 5 (raw_integer I8 (pos 42)))
union_by_a_wider_one = record {
  starts = i32_valid 42 tt;
  ends = (refl, record { sfits = leb_yes tt });
  same = refl;
  steps = (
    number_of_a_union_to_a_wider_one.0,
    has_42,
    (unions (refl, integers tt tt), record { value = raw_union 5 (raw_integer I8 (pos 42)); valid = (refl, record { sfits = leb_yes tt }); same = refl }, tt),
  );
}

pub union_at_once : IsCast int_or_string (n_or_s i8 utf8) (raw_union 5 (int 42)) (raw_union 5 (raw_integer I8 (pos 42)))
union_at_once = record { allowed = unions (refl, integers tt tt); valid = (refl, record { sfits = leb_yes tt }); same = refl }
